-- What a plan says: the parts of the keys of a closure, each part behind those that it names, and the records of the members.
use Rattle.std.specs.Prelude.{◌≡◌, ℕ, ◌<◌, ◌≤◌, List, length, Contains, slice_get, Option, None, Some}
use Rattle.clr_base.specs.declared.ids.Handle.{Handle}
use Rattle.word_board.specs.declared.view.Mark.{Mark}
use Rattle.node_set.specs.Keys.{Key, IsKey, Spells}
use Rattle.node_set.specs.declared.node.Node.{Node}
use Rattle.node_set.specs.declared.node.Node.TheVariants.{Head as HeadNode, Argument as ArgumentNode, Array as ArrayNode, Method as MethodNode}
use Rattle.type_record.specs.declared.entry.Entry.{Entry}
use Rattle.type_record.specs.Records.{entries}
use Rattle.key_rows.specs.Facts.{Facts, Tells}
use Rattle.key_publish.specs.declared.plan.Part.{Part}
use Rattle.key_publish.specs.declared.plan.Part.TheVariants.{Head, Argument, Array, Method}
use Rattle.key_publish.specs.declared.plan.Member.{Member}

-- the number of the part stands for the key
module _ (parts : List Part) where
  abbrev pub Denotes : ℕ → Key → Type 0
  Denotes i (Key.head d) = slice_get parts i ≡ Some (Head d)
  Denotes i (Key.put k x) = (a : ℕ) × (b : ℕ) × (a < i) × (b < i) × (slice_get parts i ≡ Some (Argument a b)) × Denotes a k × Denotes b x
  Denotes i (Key.array e) = (a : ℕ) × (a < i) × (slice_get parts i ≡ Some (Array a)) × Denotes a e
  Denotes i (Key.method m o) = (b : ℕ) × (b < i) × (slice_get parts i ≡ Some (Method m b)) × Denotes b o

-- numbers that a node's word has room for
abbrev pub IsNarrow : Part → Type 0
IsNarrow (Head d) = d.0 < 16777216
IsNarrow (Argument a b) = Unit {0}
IsNarrow (Array a) = Unit {0}
IsNarrow (Method m b) = m.0 < 16777216

abbrev pub IsPart : List Part → ℕ → Type 0
IsPart parts i = (p : Part) × (k : Key) × (slice_get parts i ≡ Some p) × IsNarrow p × Denotes parts i k × IsKey k

-- the parts that a part names are among the first n
abbrev pub IsBehind : ℕ → Part → Type 0
IsBehind n (Head d) = Unit {0}
IsBehind n (Argument a b) = (a < n) × (b < n)
IsBehind n (Array a) = a < n
IsBehind n (Method m b) = b < n

-- the node of a part, by the handles of the parts before it
abbrev pub IsNodeOf : List Handle → Part → Node → Type 0
IsNodeOf handles (Head d) n = n ≡ HeadNode d
IsNodeOf handles (Argument a b) n = (x : Handle) × (y : Handle) × (slice_get handles a ≡ Some x) × (slice_get handles b ≡ Some y) × (n ≡ ArgumentNode x y)
IsNodeOf handles (Array a) n = (x : Handle) × (slice_get handles a ≡ Some x) × (n ≡ ArrayNode x)
IsNodeOf handles (Method m b) n = (y : Handle) × (slice_get handles b ≡ Some y) × (n ≡ MethodNode m y)

-- the part has a handle, which spells the key
abbrev pub Shown : ℕ → List Mark → List Handle → ℕ → Key → Type 0
Shown cells seen handles p k = (h : Handle) × (slice_get handles p ≡ Some h) × Spells cells seen h.0 k

-- each part that has a handle so far
abbrev pub Spelled : ℕ → List Mark → List Part → List Handle → Type 0
Spelled cells seen parts handles = (p : ℕ) (k : Key) → p < length handles → Denotes parts p k → Shown cells seen handles p k

-- the part that an entry names has a handle
abbrev pub HasHandle : List Handle → Option ℕ → Type 0
HasHandle handles None = Unit {0}
HasHandle handles (Some p) = p < length handles

-- the handle of the part, if there is one
abbrev pub IsHandleAt : List Handle → Option ℕ → Option Handle → Type 0
IsHandleAt handles None None = Unit {0}
IsHandleAt handles None (Some h) = ⊥
IsHandleAt handles (Some p) None = ⊥
IsHandleAt handles (Some p) (Some h) = slice_get handles p ≡ Some h

-- the entry with the handle of its part
abbrev pub IsInHandles : List Handle → Entry ℕ → Entry Handle → Type 0
IsInHandles handles planned told = (told.number ≡ planned.number) × IsHandleAt handles planned.key told.key

-- the numbers of parts stand for keys by this relation
module _ (Means : ℕ → Key → Type 0) where
  abbrev pub PartFits : Option ℕ → Option Key → Type 0
  PartFits None None = Unit {0}
  PartFits None (Some k) = ⊥
  PartFits (Some p) None = ⊥
  PartFits (Some p) (Some k) = Means p k

  abbrev pub EntryFits : Entry ℕ → Entry Key → Type 0
  EntryFits planned e = (planned.number ≡ e.number) × (planned.number < 35184372088832) × PartFits planned.key e.key

  -- the member is the key, with its record
  abbrev pub MemberFits : Facts → Member → Key → Type 0
  MemberFits facts m k =
      Means m.part k
      × (length m.record ≤ 137438953472)
      × (length m.record ≡ length (entries (facts.record_of k)))
      × ((w : ℕ) (planned : Entry ℕ) (e : Entry Key) → slice_get m.record w ≡ Some planned → Tells facts k w e → EntryFits planned e)

-- the plan of the closure of a key
pub record PlanFits (facts : Facts) (parts : List Part) (members : List Member) (asked : ℕ) (root : Key) : Type 0 where
  pub parts_fit : (i : ℕ) → i < length parts → IsPart parts i
  -- each member is a key of the closure, and each key of the closure is a member
  pub members_fit : (j : ℕ) (m : Member) → slice_get members j ≡ Some m → (k : Key) × Contains (facts.closure root) k × MemberFits (Denotes parts) facts m k
  pub whole : (k : Key) → Contains (facts.closure root) k → (j : ℕ) × (m : Member) × (slice_get members j ≡ Some m) × MemberFits (Denotes parts) facts m k
  pub asked_fits : (m : Member) × (slice_get members asked ≡ Some m) × MemberFits (Denotes parts) facts m root
