-- What a text begins with, read from the front.
use Rattle.std.specs.Prelude.{◌≡◌, ◌≢◌, ℕ, zero, suc, ◌≤◌, Bool, true, false, IsTrue, not, ◌&&◌, ◌||◌, ◌==◌, List, [], ◌∷◌, ◌++◌, Option, Some, None, Result, Ok, Err, if◌then◌else◌}
use Rattle.std.specs.List.{list_all}
use Rattle.clr_base.specs.declared.ids.DefId.{DefId}
use Rattle.type_tree.specs.declared.tree.Ty.{Ty}
use Rattle.type_tree.specs.declared.tree.Ty.TheVariants as ty
use Rattle.type_tree.specs.declared.read_text.Stop.{Stop}
use Rattle.type_tree.specs.declared.read_text.Stop.TheVariants as stop
use Rattle.type_tree.specs.World.{Facts}
use Rattle.type_tree.specs.Lookup.{first_named}
use Rattle.type_tree.specs.Measure.{depth}
use Rattle.type_tree.specs.ReadTexts.{is_mark, is_plain}

abbrev pub IfRefused : Stop → Type 0 → Type 0
IfRefused stop.Refused P = P
IfRefused stop.Memory P = Unit {0}

-- What a function answers: a value of which a fact holds; refused only where there is none; or want of memory.
abbrev pub Answers : {Y : Type 0} → (Y → Type 0) → Type 0 → Result Y Stop → Type 0
Answers Found Absent (Ok y) = Found y
Answers Found Absent (Err e) = IfRefused e Absent

-- the text ends, or a mark stands there
abbrev pub is_past_name : List ℕ → Bool
is_past_name [] = true
is_past_name (b ∷ rest) = is_mark b

-- a name as long as can be, and what stands behind it
pub record IsSplit (text name rest : List ℕ) : Type 0 where
  pub whole : text ≡ name ++ rest
  pub plain : IsTrue (list_all is_plain name)
  pub past : IsTrue (is_past_name rest)

-- behind that byte, where the text begins with it
abbrev pub behind : ℕ → List ℕ → Option (List ℕ)
behind b [] = None
behind b (c ∷ rest) = if c == b then Some rest else None

abbrev pub begins_with : ℕ → List ℕ → Bool
begins_with b [] = false
begins_with b (c ∷ rest) = c == b

-- behind the bracket that opens a list of arguments; that of `[]` opens none
abbrev pub list_at : List ℕ → Option (List ℕ)
list_at [] = None
list_at (b ∷ rest) = if b == 91 && not (begins_with 93 rest) then Some rest else None

-- behind `[]`, where it stands there
abbrev pub array_at : List ℕ → Option (List ℕ)
array_at [] = None
array_at (b ∷ []) = None
array_at (b ∷ c ∷ rest) = if b == 91 && c == 93 then Some rest else None

-- so many `[]`
abbrev pub arrays : ℕ → List ℕ
arrays zero = []
arrays (suc n) = 91 ∷ 93 ∷ arrays n

-- so many levels of arrays round an element
abbrev pub in_arrays : ℕ → Ty → Ty
in_arrays zero t = t
in_arrays (suc n) t = ty.Array (in_arrays n t)

pub record AreArrays (text : List ℕ) (count : ℕ) (rest : List ℕ) : Type 0 where
  pub whole : text ≡ arrays count ++ rest
  pub no_more : array_at rest ≡ None

-- what a name stands for
pub record IsDefinition (w : Facts) (name : List ℕ) (d : DefId) : Type 0 where
  pub some : name ≢ []
  pub named : first_named w name ≡ Some d

-- a type's text ends where the whole text ends, or `]` or `,` stands
abbrev pub is_end : List ℕ → Bool
is_end [] = true
is_end (b ∷ rest) = b == 93 || b == 44

-- In what follows, One tells what a text one level deeper begins with: a tree, and what stands behind it.

-- types with commas between them, and a closing bracket
pub data BeginsList (One : List ℕ → Ty → List ℕ → Type 0) : List ℕ → List Ty → List ℕ → Type 0 where
  last : (text : List ℕ) (t : Ty) (rest : List ℕ) → One text t (93 ∷ rest) → BeginsList One text (t ∷ []) rest
  next : (text : List ℕ) (t : Ty) (others : List ℕ) (ts : List Ty) (rest : List ℕ) → One text t (44 ∷ others) → BeginsList One others ts rest → BeginsList One text (t ∷ ts) rest

pub data BeginsArguments (One : List ℕ → Ty → List ℕ → Type 0) : List ℕ → List Ty → List ℕ → Type 0 where
  none : (text : List ℕ) → list_at text ≡ None → BeginsArguments One text [] text
  some : (text inner : List ℕ) (ts : List Ty) (rest : List ℕ) → list_at text ≡ Some inner → BeginsList One inner ts rest → BeginsArguments One text ts rest

pub record BeginsTree (w : Facts) (One : List ℕ → Ty → List ℕ → Type 0) (text : List ℕ) (t : Ty) (rest : List ℕ) : Type 0 where
  pub name : List ℕ
  pub past_name : List ℕ
  pub split : IsSplit text name past_name
  pub def : DefId
  pub definition : IsDefinition w name def
  pub args : List Ty
  pub past_args : List ℕ
  pub arguments : BeginsArguments One past_name args past_args
  pub count : ℕ
  pub suffix : AreArrays past_args count rest
  pub end : IsTrue (is_end rest)
  pub tree : t ≡ in_arrays count (ty.Inst def args)

-- the text begins with that of a tree that is at most so deep, and what stands behind it
unfoldable pub Begins : Facts → ℕ → List ℕ → Ty → List ℕ → Type 0
Begins w zero text t rest = ⊥
Begins w (suc n) text t rest = BeginsTree w (Begins w n) text t rest × (depth t ≤ suc n)
