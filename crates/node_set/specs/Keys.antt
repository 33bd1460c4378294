-- What handles spell: keys, each the exact type or method that its nodes put together.
use Rattle.std.specs.Prelude.{◌≡◌, ℕ, ◌+◌, ◌<◌, ◌≤◌, List, max}
use Rattle.clr_base.specs.declared.ids.DefId.{DefId}
use Rattle.clr_base.specs.declared.ids.MethId.{MethId}
use Rattle.clr_base.specs.declared.ids.Handle.{Handle}
use Rattle.word_board.specs.Marks.{mark, Has, Within}
use Rattle.word_board.specs.declared.view.Mark.{Mark}
use Rattle.node_set.specs.Nodes.{word_of, IsNode}
use Rattle.node_set.specs.declared.node.Node.{Node}
use Rattle.node_set.specs.declared.node.Node.TheVariants.{Head, Argument, Array, Method, Row, LayoutSegment, DictionarySegment}

-- arguments are put to a key one by one, from the left
pub data Key : Type 0 where
  head : DefId → Key
  put : Key → Key → Key
  array : Key → Key
  method : MethId → Key → Key

-- 1 without parts, else one more than the deepest part. The parts of a key with arguments are those of the key that they are put to, and the arguments
abbrev pub depth : Key → ℕ
depth (head d) = 1
depth (put k x) = max (depth k) (depth x + 1)
depth (array e) = depth e + 1
depth (method m o) = depth o + 1

-- a type, and no method
abbrev pub IsType : Key → Type 0
IsType (head d) = Unit {0}
IsType (put k x) = IsType k
IsType (array e) = Unit {0}
IsType (method m o) = ⊥

-- a definition or a method, with or without arguments
abbrev pub TakesArguments : Key → Type 0
TakesArguments (head d) = Unit {0}
TakesArguments (put k x) = TakesArguments k
TakesArguments (array e) = ⊥
TakesArguments (method m o) = Unit {0}

-- arguments, elements and owners are types
abbrev pub IsWell : Key → Type 0
IsWell (head d) = Unit {0}
IsWell (put k x) = IsWell k × TakesArguments k × IsWell x × IsType x
IsWell (array e) = IsWell e × IsType e
IsWell (method m o) = IsWell o × IsType o

abbrev pub IsKey : Key → Type 0
IsKey k = IsWell k × (depth k ≤ 64)

module _ (cells : ℕ) (all : List Mark) where
  -- the node stands in the cell with this handle
  abbrev pub Stands : ℕ → Node → Type 0
  Stands handle n = (handle < cells) × IsNode n × ((by : ℕ) × Has all (mark handle (word_of n) by))

  -- the handle spells the key
  abbrev pub Spells : ℕ → Key → Type 0
  Spells handle (head d) = Stands handle (Head d)
  Spells handle (put k x) = (a b : Handle) × Stands handle (Argument a b) × Spells a.0 k × Spells b.0 x
  Spells handle (array e) = (a : Handle) × Stands handle (Array a) × Spells a.0 e
  Spells handle (method m o) = (b : Handle) × Stands handle (Method m b) × Spells b.0 o

  -- the node makes the key, by what the handles in it spell
  abbrev pub Makes : Node → Key → Type 0
  Makes (Head d) k = k ≡ head d
  Makes (Argument a b) k = (f x : Key) × Spells a.0 f × Spells b.0 x × (k ≡ put f x)
  Makes (Array a) k = (e : Key) × Spells a.0 e × (k ≡ array e)
  Makes (Method m b) k = (o : Key) × Spells b.0 o × (k ≡ method m o)
  Makes (Row a row) k = ⊥
  Makes (LayoutSegment a segment) k = ⊥
  Makes (DictionarySegment a segment) k = ⊥

  abbrev pub MakesKey : Node → Type 0
  MakesKey n = (k : Key) × Makes n k × IsKey k

  -- the nodes that a node names are set and spell keys, and a node with one of the tags 1 to 4 then makes a key
  abbrev pub Names : Node → Type 0
  Names (Head d) = MakesKey (Head d)
  Names (Argument a b) = MakesKey (Argument a b)
  Names (Array a) = MakesKey (Array a)
  Names (Method m b) = MakesKey (Method m b)
  Names (Row a row) = (k : Key) × Spells a.0 k × (0 < row)
  Names (LayoutSegment a segment) = (k : Key) × Spells a.0 k
  Names (DictionarySegment a segment) = (k : Key) × Spells a.0 k

-- these still hold when more words are set

abbrev pub stands_on : (cells : ℕ) (xs ys : List Mark) → Within xs ys → (h : ℕ) (n : Node) → Stands cells xs h n → Stands cells ys h n
stands_on cells xs ys w h n s = (s.0, s.1, (s.2.0, w (mark h (word_of n) s.2.0) s.2.1))

abbrev pub spells_on : (cells : ℕ) (xs ys : List Mark) → Within xs ys → (h : ℕ) (k : Key) → Spells cells xs h k → Spells cells ys h k
spells_on cells xs ys w h (head d) s = stands_on cells xs ys w h (Head d) s
spells_on cells xs ys w h (put k x) s = (s.0, s.1, stands_on cells xs ys w h (Argument s.0 s.1) s.2, spells_on cells xs ys w s.0.0 k s.3, spells_on cells xs ys w s.1.0 x s.4)
spells_on cells xs ys w h (array e) s = (s.0, stands_on cells xs ys w h (Array s.0) s.1, spells_on cells xs ys w s.0.0 e s.2)
spells_on cells xs ys w h (method m o) s = (s.0, stands_on cells xs ys w h (Method m s.0) s.1, spells_on cells xs ys w s.0.0 o s.2)

abbrev pub makes_on : (cells : ℕ) (xs ys : List Mark) → Within xs ys → (n : Node) (k : Key) → Makes cells xs n k → Makes cells ys n k
makes_on cells xs ys w (Head d) k s = s
makes_on cells xs ys w (Argument a b) k s = (s.0, s.1, spells_on cells xs ys w a.0 s.0 s.2, spells_on cells xs ys w b.0 s.1 s.3, s.4)
makes_on cells xs ys w (Array a) k s = (s.0, spells_on cells xs ys w a.0 s.0 s.1, s.2)
makes_on cells xs ys w (Method m b) k s = (s.0, spells_on cells xs ys w b.0 s.0 s.1, s.2)
makes_on cells xs ys w (Row a row) k s = s
makes_on cells xs ys w (LayoutSegment a segment) k s = s
makes_on cells xs ys w (DictionarySegment a segment) k s = s

abbrev pub names_on : (cells : ℕ) (xs ys : List Mark) → Within xs ys → (n : Node) → Names cells xs n → Names cells ys n
names_on cells xs ys w (Head d) s = (s.0, makes_on cells xs ys w (Head d) s.0 s.1, s.2)
names_on cells xs ys w (Argument a b) s = (s.0, makes_on cells xs ys w (Argument a b) s.0 s.1, s.2)
names_on cells xs ys w (Array a) s = (s.0, makes_on cells xs ys w (Array a) s.0 s.1, s.2)
names_on cells xs ys w (Method m b) s = (s.0, makes_on cells xs ys w (Method m b) s.0 s.1, s.2)
names_on cells xs ys w (Row a row) s = (s.0, spells_on cells xs ys w a.0 s.0 s.1, s.2)
names_on cells xs ys w (LayoutSegment a segment) s = (s.0, spells_on cells xs ys w a.0 s.0 s.1)
names_on cells xs ys w (DictionarySegment a segment) s = (s.0, spells_on cells xs ys w a.0 s.0 s.1)
