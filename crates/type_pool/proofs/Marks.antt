-- Marks of levels.
use Rattle.std.proofs.Common.{◌≡◌, ℕ, ◌+◌, min, Bool, List, ap, ◌∙◌, sym, arith}
use Rattle.clr_base.specs.declared.ids.DefId.{DefId}
use Rattle.clr_base.specs.declared.ids.NameId.{NameId}
use Rattle.type_tree.specs.declared.tree.Ty.{Ty}
use Rattle.type_tree.specs.declared.tree.Ty.TheOpen.{Ty-F}
use Rattle.type_tree.specs.declared.tree.Ty.TheVariants as ty
use Rattle.type_tree.specs.declared.tree.Ty.TheFolds.{fold-roll-Ty}
use Rattle.type_tree.specs.Measure.{depth, weight, depth_step, weight_step, depth_of_all, weight_of_all}
use Rattle.type_pool.specs.declared.nodes.Mark.{Mark}
use Rattle.type_pool.specs.Trees.{mark_of}

depth-Inst : (d : DefId) (ts : List Ty) → depth (ty.Inst d ts) ≡ depth_of_all ts + 1
depth-Inst d ts = ap depth (sym (ty.rolls-Inst d ts)) ∙ fold-roll-Ty ℕ depth_step (Ty-F.Inst d ts)

weight-Inst : (d : DefId) (ts : List Ty) → weight (ty.Inst d ts) ≡ weight_of_all ts + 1
weight-Inst d ts = ap weight (sym (ty.rolls-Inst d ts)) ∙ fold-roll-Ty ℕ weight_step (Ty-F.Inst d ts)

-- the mark of a tree, by its parts' own
pub record IsOneMore (m part : Mark) : Type 0 where
  pub deep : m.depth ≡ min (part.depth + 1) 4294967295
  pub heavy : m.weight ≡ min (part.weight + 1) 4294967295

capped : (m p d : ℕ) → p ≡ min d 4294967295 → m ≡ min (p + 1) 4294967295 → m ≡ min (d + 1) 4294967295
capped m p d e f = omega arith

made : (m : Mark) (t : Ty) → m.depth ≡ min (depth t) 4294967295 → m.weight ≡ min (weight t) 4294967295 → m ≡ mark_of t
made m t p q = λ i. record { depth = p i; weight = q i }

over : (m part : Mark) (t : Ty) (d w : ℕ) → depth t ≡ d + 1 → weight t ≡ w + 1 → part.depth ≡ min d 4294967295 → part.weight ≡ min w 4294967295 → IsOneMore m part → m ≡ mark_of t
over m part t d w deep heavy p q one =
    made m t (capped m.depth part.depth d p one.deep ∙ ap (λ n. min n 4294967295) (sym deep)) (capped m.weight part.weight w q one.heavy ∙ ap (λ n. min n 4294967295) (sym heavy))

pub mark-Inst : (d : DefId) (ts : List Ty) (m part : Mark) → part.depth ≡ min (depth_of_all ts) 4294967295 → part.weight ≡ min (weight_of_all ts) 4294967295 → IsOneMore m part → m ≡ mark_of (ty.Inst d ts)
mark-Inst d ts m part p q one = over m part (ty.Inst d ts) (depth_of_all ts) (weight_of_all ts) (depth-Inst d ts) (weight-Inst d ts) p q one

module _ (t : Ty) (m part : Mark) (is : part ≡ mark_of t) (one : IsOneMore m part) where
  pub mark-Array : m ≡ mark_of (ty.Array t)
  mark-Array = over m part (ty.Array t) (depth t) (weight t)
      (ap depth (sym (ty.rolls-Array t)) ∙ fold-roll-Ty ℕ depth_step (Ty-F.Array t)) (ap weight (sym (ty.rolls-Array t)) ∙ fold-roll-Ty ℕ weight_step (Ty-F.Array t))
      (ap (λ n. n.depth) is) (ap (λ n. n.weight) is) one

  pub mark-ByRef : m ≡ mark_of (ty.ByRef t)
  mark-ByRef = over m part (ty.ByRef t) (depth t) (weight t)
      (ap depth (sym (ty.rolls-ByRef t)) ∙ fold-roll-Ty ℕ depth_step (Ty-F.ByRef t)) (ap weight (sym (ty.rolls-ByRef t)) ∙ fold-roll-Ty ℕ weight_step (Ty-F.ByRef t))
      (ap (λ n. n.depth) is) (ap (λ n. n.weight) is) one

  pub mark-Ptr : m ≡ mark_of (ty.Ptr t)
  mark-Ptr = over m part (ty.Ptr t) (depth t) (weight t)
      (ap depth (sym (ty.rolls-Ptr t)) ∙ fold-roll-Ty ℕ depth_step (Ty-F.Ptr t)) (ap weight (sym (ty.rolls-Ptr t)) ∙ fold-roll-Ty ℕ weight_step (Ty-F.Ptr t))
      (ap (λ n. n.depth) is) (ap (λ n. n.weight) is) one

leaf : (t : Ty) → depth t ≡ 1 → weight t ≡ 1 → record { depth = 1; weight = 1 } ≡ mark_of t
leaf t p q = made (record { depth = 1; weight = 1 }) t (sym (ap (λ n. min n 4294967295) p)) (sym (ap (λ n. min n 4294967295) q))

pub mark-Var : (n : ℕ) → record { depth = 1; weight = 1 } ≡ mark_of (ty.Var n)
mark-Var n = leaf (ty.Var n) (ap depth (sym (ty.rolls-Var n)) ∙ fold-roll-Ty ℕ depth_step (Ty-F.Var n)) (ap weight (sym (ty.rolls-Var n)) ∙ fold-roll-Ty ℕ weight_step (Ty-F.Var n))

pub mark-MVar : (n : ℕ) → record { depth = 1; weight = 1 } ≡ mark_of (ty.MVar n)
mark-MVar n = leaf (ty.MVar n) (ap depth (sym (ty.rolls-MVar n)) ∙ fold-roll-Ty ℕ depth_step (Ty-F.MVar n)) (ap weight (sym (ty.rolls-MVar n)) ∙ fold-roll-Ty ℕ weight_step (Ty-F.MVar n))

pub mark-Missing : (m : NameId) (v : Bool) → record { depth = 1; weight = 1 } ≡ mark_of (ty.Missing m v)
mark-Missing m v = leaf (ty.Missing m v) (ap depth (sym (ty.rolls-Missing m v)) ∙ fold-roll-Ty ℕ depth_step (Ty-F.Missing m v)) (ap weight (sym (ty.rolls-Missing m v)) ∙ fold-roll-Ty ℕ weight_step (Ty-F.Missing m v))

pub mark-Odd : (n : ℕ) → record { depth = 1; weight = 1 } ≡ mark_of (ty.Odd n)
mark-Odd n = leaf (ty.Odd n) (ap depth (sym (ty.rolls-Odd n)) ∙ fold-roll-Ty ℕ depth_step (Ty-F.Odd n)) (ap weight (sym (ty.rolls-Odd n)) ∙ fold-roll-Ty ℕ weight_step (Ty-F.Odd n))
