-- Which bytes spell which method body (II.25.4, III.1.9).
use Rattle.std.specs.Prelude.{◌≡◌, ℕ, zero, suc, ◌+◌, ◌-◌, ◌*◌, ◌/◌, ◌%◌, ◌^◌, ◌<◌, true, false, nat_lt, if◌then◌else◌, List, [], ◌∷◌, ◌++◌, length, Some, ◌⊎◌}
use Rattle.std.specs.List.{flat_map, AllByRecursion}
use Rattle.cil_code.specs.declared.body.Prefix.{Prefix}
use Rattle.cil_code.specs.declared.body.Instr.{Instr}
use Rattle.cil_code.specs.declared.body.Placed.{Placed}
use Rattle.cil_code.specs.declared.body.Body.{Body}
use Rattle.cil_code.specs.InstructionSet.{op_of, width, is_switch}
use Rattle.cil_code.specs.Decoding.{is_locals_token, has_flag}

-- ---- spellings

-- a number in n bytes, the lowest first
abbrev pub bytes_of : ℕ → ℕ → List ℕ
bytes_of zero number = []
bytes_of (suc n) number = number % 256 ∷ bytes_of n (number / 256)

-- a code is a byte, or 0xFE and a second one
abbrev pub code_bytes : ℕ → List ℕ
code_bytes code = if nat_lt code 0x100 then code ∷ [] else 0xFE ∷ (code - 0xFE00) ∷ []

-- a prefix, or an instruction without its prefixes and targets
abbrev pub coded_bytes : Prefix → List ℕ
coded_bytes coded = code_bytes coded.op.code ++ bytes_of (width coded.op.operand) coded.operand

abbrev pub coded_of : Instr → Prefix
coded_of i = record { op = i.op; operand = i.operand }

abbrev pub targets_bytes : List ℕ → List ℕ
targets_bytes targets = flat_map (bytes_of 4) targets

-- prefixes stand before what they precede
abbrev pub instr_bytes : Instr → List ℕ
instr_bytes i = flat_map coded_bytes i.prefixes ++ (coded_bytes (coded_of i) ++ targets_bytes i.targets)

abbrev pub code_spelling : List Placed → List ℕ
code_spelling ps = flat_map (λ p. instr_bytes p.instr) ps

-- ---- what has a spelling

-- its row stands in the instruction set, and its operand fits
pub record IsCoded (coded : Prefix) : Type 0 where
  pub row : op_of coded.op.code ≡ Some coded.op
  pub fits : coded.operand < 256 ^ width coded.op.operand

pub record IsPrefix (prefix : Prefix) : Type 0 where
  pub coded : IsCoded prefix
  pub precedes : prefix.op.is_prefix ≡ true

pub record IsInstr (i : Instr) : Type 0 where
  pub prefixes : AllByRecursion IsPrefix i.prefixes
  pub coded : IsCoded (coded_of i)
  pub own : i.op.is_prefix ≡ false
  pub count : length i.targets ≡ (if is_switch i.op.operand then i.operand else 0)
  pub targets : AllByRecursion (λ t. t < 256 ^ 4) i.targets

-- Instructions that stand one after the other, the first at this place.
abbrev pub AreInstrs : ℕ → List Placed → Type 0
AreInstrs place [] = Unit {0}
AreInstrs place (p ∷ ps) = (p.place ≡ place) × IsInstr p.instr × AreInstrs (place + length (instr_bytes p.instr)) ps

-- ---- headers

-- the one byte before so many bytes of code
pub record IsTiny (header : List ℕ) (size : ℕ) (body : Body) : Type 0 where
  pub bytes : header ≡ (4 * size + 2) ∷ []
  pub size_fits : size < 64
  pub max_stack : body.max_stack ≡ 8
  pub init : body.init ≡ false
  pub locals : body.locals ≡ 0

-- the twelve bytes before so many bytes of code
pub record IsFat (header : List ℕ) (size : ℕ) (body : Body) : Type 0 where
  pub flags : ℕ
  pub second : ℕ
  pub bytes : header ≡ flags ∷ second ∷ (bytes_of 2 body.max_stack ++ (bytes_of 4 size ++ bytes_of 4 body.locals))
  pub format : flags % 4 ≡ 3
  pub sections : has_flag flags 0x8 ≡ false
  pub init : body.init ≡ has_flag flags 0x10
  pub token : is_locals_token body.locals ≡ true
  pub max_stack_fits : body.max_stack < 256 ^ 2
  pub size_fits : size < 256 ^ 4
  pub locals_fits : body.locals < 256 ^ 4

-- A body is its header, the spellings of its instructions, and bytes that nothing reads.
pub record Spells (body : Body) (bytes : List ℕ) : Type 0 where
  pub header : List ℕ
  pub more : List ℕ
  pub whole : bytes ≡ header ++ (code_spelling body.code ++ more)
  pub head : IsTiny header (length (code_spelling body.code)) body ⊎ IsFat header (length (code_spelling body.code)) body
  pub instrs : AreInstrs 0 body.code
