-- The text of a tree at each variant.
use Rattle.std.proofs.Common.{◌≡◌, ℕ, zero, suc, ◌==◌, Bool, false, List, [], ◌∷◌, ◌++◌, length, drop, append_assoc, map, codes, decimal, refl, ap, ◌∙◌, sym}
use Rattle.std.specs.List.{flat_map}
use Rattle.std.proofs.Math.Seq.{drop-length}
use Rattle.clr_base.specs.declared.ids.DefId.{DefId}
use Rattle.clr_base.specs.declared.ids.NameId.{NameId}
use Rattle.type_tree.specs.declared.tree.Ty.{Ty}
use Rattle.type_tree.specs.declared.tree.Ty.TheVariants as ty
use Rattle.type_tree.specs.World.{Facts}
use Rattle.type_tree.specs.Lookup.{full_name, name_text}
use Rattle.type_tree.specs.Texts.{bracketed, text_step, type_text}
use Rattle.type_tree.proofs.Folds.{fold-Inst, fold-Array, fold-ByRef, fold-Ptr, fold-Var, fold-MVar, fold-Missing, fold-Odd}

module _ (w : Facts) where
  pub text-Inst : (d : DefId) (ts : List Ty) → type_text w (ty.Inst d ts) ≡ full_name w d ++ bracketed (map (type_text w) ts)
  text-Inst = fold-Inst (List ℕ) (text_step w)

  pub text-Array : (t : Ty) → type_text w (ty.Array t) ≡ type_text w t ++ codes "[]"
  text-Array = fold-Array (List ℕ) (text_step w)

  pub text-ByRef : (t : Ty) → type_text w (ty.ByRef t) ≡ type_text w t ++ codes "&"
  text-ByRef = fold-ByRef (List ℕ) (text_step w)

  pub text-Ptr : (t : Ty) → type_text w (ty.Ptr t) ≡ type_text w t ++ codes "*"
  text-Ptr = fold-Ptr (List ℕ) (text_step w)

  pub text-Var : (n : ℕ) → type_text w (ty.Var n) ≡ codes "!" ++ decimal n
  text-Var = fold-Var (List ℕ) (text_step w)

  pub text-MVar : (n : ℕ) → type_text w (ty.MVar n) ≡ codes "!!" ++ decimal n
  text-MVar = fold-MVar (List ℕ) (text_step w)

  pub text-Missing : (name : NameId) (value : Bool) → type_text w (ty.Missing name value) ≡ name_text w name
  text-Missing = fold-Missing (List ℕ) (text_step w)

  pub text-Odd : (code : ℕ) → type_text w (ty.Odd code) ≡ codes "?"
  text-Odd = fold-Odd (List ℕ) (text_step w)

pub ruleset texts = (text-Inst, text-Array, text-ByRef, text-Ptr, text-Var, text-MVar, text-Missing, text-Odd)

-- arguments one behind the other, the first behind `before` and each other one behind a comma
abbrev pub led : List ℕ → List (List ℕ) → List ℕ
led before [] = codes "]"
led before (text ∷ texts) = before ++ (text ++ led (codes ",") texts)

-- what stands before the argument at a place
abbrev pub opening : ℕ → List ℕ
opening zero = codes "["
opening (suc i) = codes ","

tail-led : (texts : List (List ℕ)) → flat_map (λ t. codes "," ++ t) texts ++ codes "]" ≡ led (codes ",") texts
tail-led [] = refl
tail-led (text ∷ texts) = append_assoc (codes "," ++ text) (flat_map (λ t. codes "," ++ t) texts) (codes "]") ∙ ap (λ s. (codes "," ++ text) ++ s) (tail-led texts) ∙ append_assoc (codes ",") text (led (codes ",") texts)

pub bracketed-led : (text : List ℕ) (texts : List (List ℕ)) → bracketed (text ∷ texts) ≡ led (codes "[") (text ∷ texts)
bracketed-led text texts = ap (λ s. codes "[" ++ s) (append_assoc text (flat_map (λ t. codes "," ++ t) texts) (codes "]") ∙ ap (λ s. text ++ s) (tail-led texts))

module _ (w : Facts) where
  led-all : (before : List ℕ) (ts : List Ty) → led before (map (type_text w) (drop (length ts) ts)) ≡ codes "]"
  led-all before ts = ap (λ us. led before (map (type_text w) us)) (drop-length ts)

  -- all arguments are written, and the closing bracket
  pub closed : (ts : List Ty) (i : ℕ) (now start : List ℕ) → (length ts == 0) ≡ false → i ≡ length ts → now ++ led (opening i) (map (type_text w) (drop i ts)) ≡ start ++ led (codes "[") (map (type_text w) ts)
      → now ++ codes "]" ≡ start ++ bracketed (map (type_text w) ts)
  closed [] i now start some end h = absurd (cc)
  closed (t ∷ ts) i now start some end h =
      ap (λ s. now ++ s) (sym (ap (λ k. led (opening k) (map (type_text w) (drop k (t ∷ ts)))) end ∙ led-all (codes ",") (t ∷ ts)))
      ∙ h ∙ ap (λ s. start ++ s) (sym (bracketed-led (type_text w t) (map (type_text w) ts)))
