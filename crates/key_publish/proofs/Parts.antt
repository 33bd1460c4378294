-- The nodes of parts.
use Rattle.std.proofs.Common.{◌≡◌, ℕ, zero, suc, ◌+◌, ◌<◌, ◌≤◌, List, [], ◌∷◌, ◌++◌, length, slice_get, unwrap_or, Option, Some, sym, refl, ap, ◌∙◌, subst, arith, length-append}
use Rattle.std.proofs.lemmas.Option.{slice_get_within}
use mathlib.Core.Logic.{dite}
use native.Mathlib.Decide.{dec_lt}
use Rattle.clr_base.specs.declared.ids.Handle.{Handle}
use Rattle.word_board.specs.Marks.{Within}
use Rattle.word_board.specs.declared.view.Mark.{Mark}
use Rattle.node_set.specs.Nodes.{IsNode}
use Rattle.node_set.specs.Keys.{Key, IsKey, Spells, Makes, Names, spells_on}
use Rattle.node_set.specs.declared.node.Node.{Node}
use Rattle.node_set.specs.declared.node.Node.TheVariants.{Head as HeadNode, Argument as ArgumentNode, Array as ArrayNode, Method as MethodNode, Row, LayoutSegment, DictionarySegment}
use Rattle.node_set.proofs.Spelling.{spells_inside}
use Rattle.key_publish.specs.declared.plan.Part.{Part}
use Rattle.key_publish.specs.declared.plan.Part.TheVariants.{Head, Argument, Array, Method}
use Rattle.key_publish.specs.Plans.{Denotes, IsNarrow, IsBehind, IsNodeOf, Shown, Spelled}

pub same_some : {A : Type 0} (o : Option A) (x y : A) → o ≡ Some x → o ≡ Some y → x ≡ y
same_some {A} o x y a b = ap (λ (p : Option A). unwrap_or p x) (sym a ∙ b)

pub shown_on : (cells : ℕ) (xs ys : List Mark) → Within xs ys → (handles : List Handle) (p : ℕ) (k : Key) → Shown cells xs handles p k → Shown cells ys handles p k
shown_on cells xs ys on handles p k s = (s.0, s.1, spells_on cells xs ys on s.0.0 k s.2)

pub spelled_on : (cells : ℕ) (xs ys : List Mark) → Within xs ys → (parts : List Part) (handles : List Handle) → Spelled cells xs parts handles → Spelled cells ys parts handles
spelled_on cells xs ys on parts handles s p k low d = shown_on cells xs ys on handles p k (s p k low d)

module _ (parts : List Part) (n : ℕ) where
  -- the part is that of the key
  pub behind : (k : Key) → Denotes parts n k → (p : Part) → slice_get parts n ≡ Some p → IsBehind n p
  behind (Key.head d) s p at = subst (IsBehind n) (same_some (slice_get parts n) (Head d) p s at) tt
  behind (Key.put k x) s p at = subst (IsBehind n) (same_some (slice_get parts n) (Argument s.0 s.1) p s.4 at) (s.2, s.3)
  behind (Key.array e) s p at = subst (IsBehind n) (same_some (slice_get parts n) (Array s.0) p s.2 at) s.1
  behind (Key.method m o) s p at = subst (IsBehind n) (same_some (slice_get parts n) (Method m s.0) p s.2 at) s.1

  module _ (cells : ℕ) (few : cells ≤ 262144) (seen : List Mark) (handles : List Handle) (long : n ≡ length handles) (spelled : Spelled cells seen parts handles) where
    handle_spells : (a : ℕ) (k : Key) → a < n → Denotes parts a k → (x : Handle) → slice_get handles a ≡ Some x → Spells cells seen x.0 k
    handle_spells a k low d x at = let s = spelled a k (omega arith) d in
        subst (λ (h : Handle). Spells cells seen h.0 k) (same_some (slice_get handles a) s.0 x s.1 at) s.2

    small : (h : ℕ) (k : Key) → Spells cells seen h k → h < 262144
    small h k s = let low = spells_inside cells seen h k s in omega arith

    -- the node of a part makes the part's key
    pub node_makes : (k : Key) → Denotes parts n k → (p : Part) → slice_get parts n ≡ Some p → (node : Node) → IsNodeOf handles p node → Makes cells seen node k
    node_makes (Key.head d) s p at node of =
        let e : p ≡ Head d = same_some (slice_get parts n) p (Head d) at s in
        let is : node ≡ HeadNode d = subst (λ (q : Part). IsNodeOf handles q node) e of in
        subst (λ (m : Node). Makes cells seen m (Key.head d)) (sym is) refl
    node_makes (Key.put k x) s p at node of =
        let e : p ≡ Argument s.0 s.1 = same_some (slice_get parts n) p (Argument s.0 s.1) at s.4 in
        let o = subst (λ (q : Part). IsNodeOf handles q node) e of in
        subst (λ (m : Node). Makes cells seen m (Key.put k x)) (sym o.4) (k, x, handle_spells s.0 k s.2 s.5 o.0 o.2, handle_spells s.1 x s.3 s.6 o.1 o.3, refl)
    node_makes (Key.array t) s p at node of =
        let e : p ≡ Array s.0 = same_some (slice_get parts n) p (Array s.0) at s.2 in
        let o = subst (λ (q : Part). IsNodeOf handles q node) e of in
        subst (λ (m : Node). Makes cells seen m (Key.array t)) (sym o.2) (t, handle_spells s.0 t s.1 s.3 o.0 o.1, refl)
    node_makes (Key.method m t) s p at node of =
        let e : p ≡ Method m s.0 = same_some (slice_get parts n) p (Method m s.0) at s.2 in
        let o = subst (λ (q : Part). IsNodeOf handles q node) e of in
        subst (λ (x : Node). Makes cells seen x (Key.method m t)) (sym o.2) (t, handle_spells s.0 t s.1 s.3 o.0 o.1, refl)

    -- and has room in a word
    pub node_fits : (k : Key) → Denotes parts n k → (p : Part) → slice_get parts n ≡ Some p → IsNarrow p → (node : Node) → IsNodeOf handles p node → IsNode node
    node_fits (Key.head d) s p at narrow node of =
        let e : p ≡ Head d = same_some (slice_get parts n) p (Head d) at s in
        let is : node ≡ HeadNode d = subst (λ (q : Part). IsNodeOf handles q node) e of in
        subst IsNode (sym is) (subst IsNarrow e narrow, omega arith)
    node_fits (Key.put k x) s p at narrow node of =
        let e : p ≡ Argument s.0 s.1 = same_some (slice_get parts n) p (Argument s.0 s.1) at s.4 in
        let o = subst (λ (q : Part). IsNodeOf handles q node) e of in
        let f = small o.0.0 k (handle_spells s.0 k s.2 s.5 o.0 o.2) in let g = small o.1.0 x (handle_spells s.1 x s.3 s.6 o.1 o.3) in
        subst IsNode (sym o.4) (omega arith, omega arith)
    node_fits (Key.array t) s p at narrow node of =
        let e : p ≡ Array s.0 = same_some (slice_get parts n) p (Array s.0) at s.2 in
        let o = subst (λ (q : Part). IsNodeOf handles q node) e of in
        let f = small o.0.0 t (handle_spells s.0 t s.1 s.3 o.0 o.1) in
        subst IsNode (sym o.2) (omega arith, omega arith)
    node_fits (Key.method m t) s p at narrow node of =
        let e : p ≡ Method m s.0 = same_some (slice_get parts n) p (Method m s.0) at s.2 in
        let o = subst (λ (q : Part). IsNodeOf handles q node) e of in
        let f = small o.0.0 t (handle_spells s.0 t s.1 s.3 o.0 o.1) in
        subst IsNode (sym o.2) (subst IsNarrow e narrow, omega arith)

-- a node that makes a key names what it may
pub makes_names : (cells : ℕ) (seen : List Mark) (n : Node) (k : Key) → Makes cells seen n k → IsKey k → Names cells seen n
makes_names cells seen (HeadNode d) k makes key = (k, makes, key)
makes_names cells seen (ArgumentNode a b) k makes key = (k, makes, key)
makes_names cells seen (ArrayNode a) k makes key = (k, makes, key)
makes_names cells seen (MethodNode m b) k makes key = (k, makes, key)
makes_names cells seen (Row a row) k makes key = absurd makes
makes_names cells seen (LayoutSegment a segment) k makes key = absurd makes
makes_names cells seen (DictionarySegment a segment) k makes key = absurd makes

get_left : {A : Type 0} (xs ys : List A) (i : ℕ) (x : A) → slice_get xs i ≡ Some x → slice_get (xs ++ ys) i ≡ Some x
get_left [] ys i x e = absurd (omega (arith, slice_get_within [] i x e))
get_left (y ∷ xs) ys zero x e = e
get_left (y ∷ xs) ys (suc i) x e = get_left xs ys i x e

get_end : {A : Type 0} (xs : List A) (x : A) → slice_get (xs ++ x ∷ []) (length xs) ≡ Some x
get_end [] x = refl
get_end (y ∷ xs) x = get_end xs x

-- one part more has its handle
pub spelled_next : (cells : ℕ) (old new : List Mark) (parts : List Part) (handles more : List Handle) (h : Handle) → Within old new → Spelled cells old parts handles
    → ((k : Key) → Denotes parts (length handles) k → Spells cells new h.0 k) → more ≡ handles ++ h ∷ [] → Spelled cells new parts more
spelled_next cells old new parts handles more h on before now e p k low d =
    subst (λ (hs : List Handle). Shown cells new hs p k) (sym e)
    (dite (dec_lt p (length handles))
    (λ lower. let s = shown_on cells old new on handles p k (before p k lower d) in (s.0, get_left handles (h ∷ []) p s.0 s.1, s.2))
    (λ not-lower.
    let long : length more ≡ length handles + 1 = ap length e ∙ length-append handles (h ∷ []) in
    let is : length handles ≡ p = omega arith in
    (h, subst (λ (q : ℕ). slice_get (handles ++ h ∷ []) q ≡ Some h) is (get_end handles h), now k (subst (λ (q : ℕ). Denotes parts q k) (sym is) d))))
