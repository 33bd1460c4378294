-- What handles spell.
use Rattle.std.proofs.Common.{◌≡◌, ℕ, ◌<◌, ◌≤◌, List, sym, refl, ap, subst, arith}
use Rattle.clr_base.specs.declared.ids.Handle.{Handle}
use Rattle.word_board.specs.Marks.{mark, Once}
use Rattle.word_board.specs.declared.view.Mark.{Mark}
use Rattle.node_set.specs.Nodes.{tag_of, first_of, second_of, word_of}
use Rattle.node_set.specs.Keys.{Key, IsKey, Stands, Spells, Makes, MakesKey, Names}
use Rattle.node_set.specs.Probing.{OneCell}
use Rattle.node_set.specs.declared.node.Node.{Node}
use Rattle.node_set.specs.declared.node.Node.TheVariants.{Head, Argument, Array, Method, Row, LayoutSegment, DictionarySegment}
use Rattle.node_set.proofs.Words.{same_node}

same_handle : (a b : Handle) → a.0 ≡ b.0 → a ≡ b
same_handle a b e = λ i. record { 0 = e i }

module _ (cells : ℕ) (all : List Mark) where
  -- a handle that spells a key is the number of a cell, in which a node with one of the tags 1 to 4 stands
  outermost : (h : ℕ) (k : Key) → Spells cells all h k → (n : Node) × Stands cells all h n × (tag_of n ≤ 4)
  outermost h (Key.head d) s = (Head d, s, omega arith)
  outermost h (Key.put k x) s = (Argument s.0 s.1, s.2, omega arith)
  outermost h (Key.array e) s = (Array s.0, s.1, omega arith)
  outermost h (Key.method m o) s = (Method m s.0, s.1, omega arith)

  pub spells_inside : (h : ℕ) (k : Key) → Spells cells all h k → h < cells
  spells_inside h k s = (outermost h k s).1.0

  module _ (once : Once all) where
    -- one node stands in a cell
    pub stands_one : (h : ℕ) (n m : Node) → Stands cells all h n → Stands cells all h m → n ≡ m
    stands_one h n m s t = same_node n m s.1 t.1 (ap (λ (x : Mark). x.word) (once (mark h (word_of n) s.2.0) (mark h (word_of m) t.2.0) s.2.1 t.2.1 refl))

    differ : {A : Type 0} (h : ℕ) (n m : Node) → Stands cells all h n → Stands cells all h m → ¬ (tag_of n ≡ tag_of m) → A
    differ h n m s t ne = absurd (ne (ap tag_of (stands_one h n m s t)))

    first_same : (h : ℕ) (n m : Node) → Stands cells all h n → Stands cells all h m → first_of n ≡ first_of m
    first_same h n m s t = ap first_of (stands_one h n m s t)

    second_same : (h : ℕ) (n m : Node) → Stands cells all h n → Stands cells all h m → second_of n ≡ second_of m
    second_same h n m s t = ap second_of (stands_one h n m s t)

    -- each node in the cell of a key has one of the tags 1 to 4
    pub key_tag : (h : ℕ) (k : Key) (n : Node) → Spells cells all h k → Stands cells all h n → tag_of n ≤ 4
    key_tag h k n s t = let o = outermost h k s in subst (λ (m : Node). tag_of m ≤ 4) (stands_one h o.0 n o.1 t) o.2

    -- a key's cell has no further row of a key
    pub no_row : (h : ℕ) (k : Key) (a : Handle) (row : ℕ) → Spells cells all h k → ¬ Stands cells all h (Row a row)
    no_row h k a row s t = absurd (omega (arith, key_tag h k (Row a row) s t))

    pub one_key : (h : ℕ) (k l : Key) → Spells cells all h k → Spells cells all h l → k ≡ l
    one_key h (Key.head d) (Key.head e) s t = let f = first_same h (Head d) (Head e) s t in λ i. Key.head (record { 0 = f i })
    one_key h (Key.head d) (Key.put l y) s t = differ h (Head d) (Argument t.0 t.1) s t.2 (λ e. omega arith)
    one_key h (Key.head d) (Key.array f) s t = differ h (Head d) (Array t.0) s t.1 (λ e. omega arith)
    one_key h (Key.head d) (Key.method m o) s t = differ h (Head d) (Method m t.0) s t.1 (λ e. omega arith)
    one_key h (Key.put k x) (Key.head e) s t = differ h (Argument s.0 s.1) (Head e) s.2 t (λ e. omega arith)
    one_key h (Key.put k x) (Key.put l y) s t =
        let a : t.0.0 ≡ s.0.0 = sym (first_same h (Argument s.0 s.1) (Argument t.0 t.1) s.2 t.2) in
        let b : t.1.0 ≡ s.1.0 = sym (second_same h (Argument s.0 s.1) (Argument t.0 t.1) s.2 t.2) in
        let f = one_key s.0.0 k l s.3 (subst (λ (g : ℕ). Spells cells all g l) a t.3) in
        let g = one_key s.1.0 x y s.4 (subst (λ (g : ℕ). Spells cells all g y) b t.4) in
        λ i. Key.put (f i) (g i)
    one_key h (Key.put k x) (Key.array f) s t = differ h (Argument s.0 s.1) (Array t.0) s.2 t.1 (λ e. omega arith)
    one_key h (Key.put k x) (Key.method m o) s t = differ h (Argument s.0 s.1) (Method m t.0) s.2 t.1 (λ e. omega arith)
    one_key h (Key.array e) (Key.head d) s t = differ h (Array s.0) (Head d) s.1 t (λ e. omega arith)
    one_key h (Key.array e) (Key.put l y) s t = differ h (Array s.0) (Argument t.0 t.1) s.1 t.2 (λ e. omega arith)
    one_key h (Key.array e) (Key.array f) s t =
        let a : t.0.0 ≡ s.0.0 = sym (first_same h (Array s.0) (Array t.0) s.1 t.1) in
        ap Key.array (one_key s.0.0 e f s.2 (subst (λ (g : ℕ). Spells cells all g f) a t.2))
    one_key h (Key.array e) (Key.method m o) s t = differ h (Array s.0) (Method m t.0) s.1 t.1 (λ e. omega arith)
    one_key h (Key.method m o) (Key.head d) s t = differ h (Method m s.0) (Head d) s.1 t (λ e. omega arith)
    one_key h (Key.method m o) (Key.put l y) s t = differ h (Method m s.0) (Argument t.0 t.1) s.1 t.2 (λ e. omega arith)
    one_key h (Key.method m o) (Key.array f) s t = differ h (Method m s.0) (Array t.0) s.1 t.1 (λ e. omega arith)
    one_key h (Key.method m o) (Key.method n p) s t =
        let f = first_same h (Method m s.0) (Method n t.0) s.1 t.1 in
        let b : t.0.0 ≡ s.0.0 = sym (second_same h (Method m s.0) (Method n t.0) s.1 t.1) in
        let g = one_key s.0.0 o p s.2 (subst (λ (g : ℕ). Spells cells all g p) b t.2) in
        λ i. Key.method (record { 0 = f i }) (g i)

  module _ (one : OneCell cells all) where
    stands_here : (g h : ℕ) (n m : Node) → Stands cells all g n → Stands cells all h m → n ≡ m → g ≡ h
    stands_here g h n m s t e = ap (λ (x : Mark). x.place) (one (mark g (word_of n) s.2.0) (mark h (word_of m) t.2.0) s.2.1 t.2.1 s.0 t.0 (ap word_of e))

    pub one_handle : (k : Key) (g h : ℕ) → Spells cells all g k → Spells cells all h k → g ≡ h
    one_handle (Key.head d) g h s t = stands_here g h (Head d) (Head d) s t refl
    one_handle (Key.put k x) g h s t =
        let a = same_handle s.0 t.0 (one_handle k s.0.0 t.0.0 s.3 t.3) in
        let b = same_handle s.1 t.1 (one_handle x s.1.0 t.1.0 s.4 t.4) in
        stands_here g h (Argument s.0 s.1) (Argument t.0 t.1) s.2 t.2 (λ i. Argument (a i) (b i))
    one_handle (Key.array e) g h s t = let a = same_handle s.0 t.0 (one_handle e s.0.0 t.0.0 s.2 t.2) in stands_here g h (Array s.0) (Array t.0) s.1 t.1 (λ i. Array (a i))
    one_handle (Key.method m o) g h s t = let b = same_handle s.0 t.0 (one_handle o s.0.0 t.0.0 s.2 t.2) in stands_here g h (Method m s.0) (Method m t.0) s.1 t.1 (λ i. Method m (b i))

  -- a node that makes a key, and stands in a cell, spells it there
  pub made : (h : ℕ) (n : Node) (k : Key) → Stands cells all h n → Makes cells all n k → Spells cells all h k
  made h (Head d) k s makes = subst (Spells cells all h) (sym makes) s
  made h (Argument a b) k s makes = subst (Spells cells all h) (sym makes.4) (a, b, s, makes.2, makes.3)
  made h (Array a) k s makes = subst (Spells cells all h) (sym makes.2) (a, s, makes.1)
  made h (Method m b) k s makes = subst (Spells cells all h) (sym makes.2) (b, s, makes.1)
  made h (Row a r) k s makes = absurd makes
  made h (LayoutSegment a r) k s makes = absurd makes
  made h (DictionarySegment a r) k s makes = absurd makes

  pub makes_key : (n : Node) → Names cells all n → tag_of n ≤ 4 → MakesKey cells all n
  makes_key (Head d) names low = names
  makes_key (Argument a b) names low = names
  makes_key (Array a) names low = names
  makes_key (Method m b) names low = names
  makes_key (Row a r) names low = absurd (omega arith)
  makes_key (LayoutSegment a r) names low = absurd (omega arith)
  makes_key (DictionarySegment a r) names low = absurd (omega arith)

  -- a node that names what it may, and stands in a cell, spells a key there, if its tag is a key's
  pub spelled : (h : ℕ) (n : Node) → Stands cells all h n → Names cells all n → tag_of n ≤ 4 → (k : Key) × Spells cells all h k × IsKey k
  spelled h n s names low = let m = makes_key n names low in (m.0, made h n m.0 s m.1, m.2)
