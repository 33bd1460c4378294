-- The grammar of signatures (II.23.2): which bytes spell which value. Each production is one constructor, and its
-- bytes stand in it as they stand in the blob.
use Rattle.std.specs.Prelude.{◌≡◌, ℕ, zero, suc, ◌+◌, ◌*◌, ◌<◌, ◌≤◌, Bool, true, false, IsTrue, ◌⊎◌, ◌==◌, bit_and, List, [], ◌∷◌, ◌++◌, length}
use Rattle.cli_sigs.specs.declared.signature.RowCounts.{RowCounts}
use Rattle.cli_sigs.specs.declared.signature.SigTy.{SigTy}
use Rattle.cli_sigs.specs.declared.signature.SigTy.TheVariants as sig
use Rattle.cli_sigs.specs.declared.signature.SigMethod.{SigMethod}
use Rattle.cli_sigs.specs.declared.marks.Before.{Before}
use Rattle.cli_sigs.specs.declared.marks.Before.TheVariants as before
use Rattle.cli_sigs.specs.declared.types.Callee.{Callee}
use Rattle.cli_sigs.specs.declared.types.Callee.TheVariants as callee
use Rattle.cli_sigs.specs.Compressed.{names_row, names_type}
use Rattle.cli_sigs.specs.Element.{is_built_in}
use Rattle.cli_sigs.specs.Marks.{is_modifier}
use Rattle.cli_sigs.specs.Types.{has_flag, are_flags}

-- a compressed number, in any spelling that holds it (II.23.2)
pub data SpellsNumber : List ℕ → ℕ → Type 0 where
  one_byte : (a : ℕ) → a < 0x80 → SpellsNumber (a ∷ []) a
  two_bytes : (a b : ℕ) → a < 0x40 → SpellsNumber ((0x80 + a) ∷ b ∷ []) (a * 0x100 + b)
  four_bytes : (a b c d : ℕ) → a < 0x20 → SpellsNumber ((0xC0 + a) ∷ b ∷ c ∷ d ∷ []) (((a * 0x100 + b) * 0x100 + c) * 0x100 + d)

-- the TypeDefOrRef number of a TypeDef or TypeRef row (II.23.2.8)
pub data SpellsTypeName (counts : RowCounts) : List ℕ → ℕ → Type 0 where
  type_name : (text : List ℕ) (n : ℕ) → SpellsNumber text n → IsTrue (names_type counts n) → SpellsTypeName counts text n

-- the number of a generic parameter
pub data SpellsVariable : List ℕ → ℕ → Type 0 where
  variable : (text : List ℕ) (n : ℕ) → SpellsNumber text n → n ≤ 65535 → SpellsVariable text n

-- values one behind the other
pub data SpellsEach {X : Type 0} (One : List ℕ → X → Type 0) : List ℕ → List X → Type 0 where
  none : SpellsEach One [] []
  more : (text others : List ℕ) (x : X) (xs : List X) → One text x → SpellsEach One others xs → SpellsEach One (text ++ others) (x ∷ xs)

-- how many there are, and then they
pub data SpellsCounted {X : Type 0} (One : List ℕ → X → Type 0) : List ℕ → List X → Type 0 where
  counted : (count texts : List ℕ) (xs : List X) → SpellsNumber count (length xs) → SpellsEach One texts xs → SpellsCounted One (count ++ texts) xs

-- what is skipped before a type: custom modifiers (II.23.2.7), and before a local also that it is pinned (II.23.2.9)
pub data AreMarks (counts : RowCounts) : Before → List ℕ → Type 0 where
  no_marks : (what : Before) → AreMarks counts what []
  modifier : (what : Before) (code : ℕ) (name others : List ℕ) (n : ℕ) → IsTrue (is_modifier code) → SpellsNumber name n → IsTrue (names_row counts n) → AreMarks counts what others
      → AreMarks counts what (code ∷ (name ++ others))
  pinned : (others : List ℕ) → AreMarks counts before.Local others → AreMarks counts before.Local (0x45 ∷ others)

pub data SpellsMarked (counts : RowCounts) (what : Before) (One : List ℕ → SigTy → Type 0) : List ℕ → SigTy → Type 0 where
  marked : (marks text : List ℕ) (t : SigTy) → AreMarks counts what marks → One text t → SpellsMarked counts what One (marks ++ text) t

-- void or a type
pub data SpellsVoidOr (One : List ℕ → SigTy → Type 0) : List ℕ → SigTy → Type 0 where
  void : SpellsVoidOr One (0x01 ∷ []) (sig.BuiltIn 0x01)
  a_type : (text : List ℕ) (t : SigTy) → One text t → SpellsVoidOr One text t

-- what a method returns and a pointer leads to (II.23.2.11)
abbrev pub SpellsTarget : RowCounts → (List ℕ → SigTy → Type 0) → List ℕ → SigTy → Type 0
SpellsTarget counts One = SpellsMarked counts before.Type (SpellsVoidOr One)

-- a parameter (II.23.2.10); the sentinel 41 says that the variable arguments begin
pub data SpellsParam (counts : RowCounts) (One : List ℕ → SigTy → Type 0) : List ℕ → SigTy → Type 0 where
  param : (text : List ℕ) (t : SigTy) → SpellsMarked counts before.Type One text t → SpellsParam counts One text t
  sentinel : (text : List ℕ) (t : SigTy) → SpellsMarked counts before.Type One text t → SpellsParam counts One (0x41 ∷ text) t

-- the number of generic parameters stands there where the flags say so
pub data SpellsGenericCount : ℕ → List ℕ → ℕ → Type 0 where
  not_generic : (flags : ℕ) → has_flag flags 0x10 ≡ false → SpellsGenericCount flags [] 0
  is_generic : (flags : ℕ) (text : List ℕ) (n : ℕ) → has_flag flags 0x10 ≡ true → SpellsNumber text n → SpellsGenericCount flags text n

abbrev pub method_of : ℕ → ℕ → SigTy → List SigTy → SigMethod
method_of flags n t ts = record { has_this = has_flag flags 0x20; vararg = bit_and flags 0x0F == 5; generic = n; ret = t; params = ts }

-- a method (II.23.2.1 to II.23.2.3): flags, generic parameters, parameters, result, parameters
pub data SpellsMethod (counts : RowCounts) (One : List ℕ → SigTy → Type 0) (who : Callee) : List ℕ → SigMethod → Type 0 where
  method : (flags : ℕ) (generic count ret params : List ℕ) (n : ℕ) (t : SigTy) (ts : List SigTy)
      → IsTrue (are_flags who flags) → SpellsGenericCount flags generic n → SpellsNumber count (length ts) → SpellsTarget counts One ret t → SpellsEach (SpellsParam counts One) params ts
      → SpellsMethod counts One who (flags ∷ (generic ++ (count ++ (ret ++ params)))) (method_of flags n t ts)

-- the types that have no types in them
pub data SpellsSimple (counts : RowCounts) : List ℕ → SigTy → Type 0 where
  built_in : (code : ℕ) → IsTrue (is_built_in code) → SpellsSimple counts (code ∷ []) (sig.BuiltIn code)
  value_type : (name : List ℕ) (n : ℕ) → SpellsTypeName counts name n → SpellsSimple counts (0x11 ∷ name) (sig.Inst n true [])
  class : (name : List ℕ) (n : ℕ) → SpellsTypeName counts name n → SpellsSimple counts (0x12 ∷ name) (sig.Inst n false [])
  var : (text : List ℕ) (n : ℕ) → SpellsVariable text n → SpellsSimple counts (0x13 ∷ text) (sig.Var n)
  typed_by_ref : SpellsSimple counts (0x16 ∷ []) (sig.Odd 0x16)
  mvar : (text : List ℕ) (n : ℕ) → SpellsVariable text n → SpellsSimple counts (0x1E ∷ text) (sig.MVar n)

-- the code that says whether an instantiated type is a value type
abbrev pub kind_code : Bool → ℕ
kind_code true = 0x11
kind_code false = 0x12

-- the types that have types in them, which One spells
pub data SpellsConstructed (counts : RowCounts) (One : List ℕ → SigTy → Type 0) : List ℕ → SigTy → Type 0 where
  ptr : (text : List ℕ) (t : SigTy) → SpellsTarget counts One text t → SpellsConstructed counts One (0x0F ∷ text) (sig.Ptr t)
  by_ref : (text : List ℕ) (t : SigTy) → SpellsMarked counts before.Type One text t → SpellsConstructed counts One (0x10 ∷ text) (sig.ByRef t)
  sz_array : (text : List ℕ) (t : SigTy) → SpellsMarked counts before.Type One text t → SpellsConstructed counts One (0x1D ∷ text) (sig.Array t)
  -- the element, the rank, the sizes and the lower bounds (II.23.2.13)
  array : (element rank sizes bounds : List ℕ) (t : SigTy) (r : ℕ) (ss bs : List ℕ)
      → One element t → SpellsNumber rank r → SpellsCounted SpellsNumber sizes ss → SpellsCounted SpellsNumber bounds bs
      → SpellsConstructed counts One (0x14 ∷ (element ++ (rank ++ (sizes ++ bounds)))) (sig.Odd 0x14)
  generic_inst : (value : Bool) (name args : List ℕ) (n : ℕ) (ts : List SigTy)
      → SpellsTypeName counts name n → 0 < length ts → SpellsCounted One args ts
      → SpellsConstructed counts One (0x15 ∷ kind_code value ∷ (name ++ args)) (sig.Inst n value ts)
  fn_ptr : (text : List ℕ) (m : SigMethod) → SpellsMethod counts One callee.Pointer text m → SpellsConstructed counts One (0x1B ∷ text) (sig.Odd 0x1B)

abbrev pub SpellsLevel : RowCounts → (List ℕ → SigTy → Type 0) → List ℕ → SigTy → Type 0
SpellsLevel counts One text t = SpellsSimple counts text t ⊎ SpellsConstructed counts One text t

-- a type in which at most that many constructors are nested
unfoldable pub SpellsType : RowCounts → ℕ → List ℕ → SigTy → Type 0
SpellsType counts zero = SpellsSimple counts
SpellsType counts (suc levels) = SpellsLevel counts (SpellsType counts levels)

-- any type that a signature may have (II.23.2.12, II.23.2.14): 64 constructors may be nested
unfoldable pub SpellsTypeSpec : RowCounts → List ℕ → SigTy → Type 0
SpellsTypeSpec counts = SpellsType counts 64

-- II.23.2.4
pub data SpellsField (counts : RowCounts) : List ℕ → SigTy → Type 0 where
  field : (text : List ℕ) (t : SigTy) → SpellsMarked counts before.Type (SpellsTypeSpec counts) text t → SpellsField counts (0x06 ∷ text) t

-- II.23.2.1 to II.23.2.2
abbrev pub SpellsMember : RowCounts → List ℕ → SigMethod → Type 0
SpellsMember counts = SpellsMethod counts (SpellsTypeSpec counts) callee.Member

-- II.23.2.6
pub data SpellsLocals (counts : RowCounts) : List ℕ → List SigTy → Type 0 where
  locals : (text : List ℕ) (ts : List SigTy) → SpellsCounted (SpellsMarked counts before.Local (SpellsTypeSpec counts)) text ts → SpellsLocals counts (0x07 ∷ text) ts

-- II.23.2.15
pub data SpellsMethodSpec (counts : RowCounts) : List ℕ → List SigTy → Type 0 where
  method_spec : (text : List ℕ) (ts : List SigTy) → 0 < length ts → SpellsCounted (SpellsTypeSpec counts) text ts → SpellsMethodSpec counts (0x0A ∷ text) ts

-- the blob begins with bytes that spell x; what comes after them is ignored
pub record Holds {X : Type 0} (Spells : List ℕ → X → Type 0) (blob : List ℕ) (x : X) : Type 0 where
  pub text : List ℕ
  pub ignored : List ℕ
  pub spelled : Spells text x
  pub whole : blob ≡ text ++ ignored
