-- A code with its operand is read as it is spelled.
use Rattle.std.proofs.Common.{◌≡◌, ℕ, ◌+◌, ◌-◌, ◌<◌, false, cond, List, [], ◌∷◌, ◌++◌, length, Option, Some, None, Result, Ok, inl, inr, refl, sym, ap, subst, ◌∙◌, arith}
use Rattle.std.specs.Prelude.{nat_lt, ◌==◌}
use Rattle.std.proofs.lemmas.Bool.{cases_lt, le-ltb, lt-ltb, eqb-true, ne_eqb}
use Rattle.cil_code.specs.declared.code_fault.CodeFault.{CodeFault}
use Rattle.cil_code.specs.declared.instruction_set.Op.{Op}
use Rattle.cil_code.specs.declared.body.Prefix.{Prefix}
use Rattle.cil_code.specs.InstructionSet.{op_of, width}
use Rattle.cil_code.specs.Reading.{◌>>=◌, Window, fault_at, number_at, code_at, row_or, row_at, coded_at}
use Rattle.cil_code.specs.Spelling.{bytes_of, code_bytes, coded_bytes, IsCoded}
use Rattle.cil_code.proofs.Bytes.{IsBytes}
use Rattle.cil_code.proofs.Table.{IsCode, code_of_row, row_has_code}
use Rattle.cil_code.proofs.Choices.{test_cases, chosen, passed}
use Rattle.cil_code.proofs.Takes.{bind_ok, bind_at, pair_is, ok_is, Takes, takes_then, takes_text, between, takes_first, takes_second, bytes_behind, number_takes, number_again}

-- ---- codes

one_byte : (b : ℕ) → b < 256 → bytes_of 1 b ≡ b ∷ []
one_byte b small = ap (λ (x : ℕ). x ∷ []) (omega arith)

code_one : (b : ℕ) → b < 0x100 → code_bytes b ≡ b ∷ []
code_one b small = chosen (nat_lt b 0x100) (b ∷ []) (0xFE ∷ (b - 0xFE00) ∷ []) (lt-ltb b 0x100 small)

code_two : (second : ℕ) → code_bytes (0xFE00 + second) ≡ 0xFE ∷ second ∷ []
code_two second =
    let large : nat_lt (0xFE00 + second) 0x100 ≡ false = le-ltb (0xFE00 + second) 0x100 (omega arith) in
    let same : 0xFE00 + second - 0xFE00 ≡ second = omega arith in
    passed (nat_lt (0xFE00 + second) 0x100) ((0xFE00 + second) ∷ []) (0xFE ∷ (0xFE00 + second - 0xFE00) ∷ []) large
    ∙ ap (λ (x : ℕ). 0xFE ∷ x ∷ []) same

-- what follows a code's first byte
abbrev behind_first : ℕ → ℕ × Window → Result (ℕ × Window) CodeFault
behind_first place first = cond (first.0 == 0xFE) (number_at place 1 first.1 >>= λ second. Ok (0xFE00 + second.0, second.1)) (Ok first)

code_is : (w : Window) → code_at w ≡ (number_at w.place 1 w >>= behind_first w.place)
unfolding code_at
code_is w = refl

pub code_takes : (w : Window) (code : ℕ) (v : Window) → IsBytes w.bytes → code_at w ≡ Ok (code, v) → Takes w (code_bytes code) v
code_takes w code v fits e =
    let b = bind_ok (number_at w.place 1 w) (behind_first w.place) (code, v) (sym (code_is w) ∙ e) in
    let f = number_takes w.place 1 w b.0.0 b.0.1 fits b.1 in
    let small : b.0.0 < 256 = omega (arith, f.1) in
    let first : Takes w (b.0.0 ∷ []) b.0.1 = takes_text w b.0.1 _ _ (one_byte b.0.0 small) f.0 in
    elim (test_cases (b.0.0 == 0xFE)) [
      | inl two ↦
          let at : b.0.0 ≡ 0xFE = eqb-true b.0.0 0xFE two in
          let behind = sym (chosen (b.0.0 == 0xFE) _ _ two) ∙ b.2 in
          let s = bind_ok (number_at w.place 1 b.0.1) (λ second. Ok (0xFE00 + second.0, second.1)) (code, v) behind in
          let g = number_takes w.place 1 b.0.1 s.0.0 s.0.1 (bytes_behind w b.0.1 _ f.0 fits) s.1 in
          let tiny : s.0.0 < 256 = omega (arith, g.1) in
          let second : Takes b.0.1 (s.0.0 ∷ []) s.0.1 = takes_text b.0.1 s.0.1 _ _ (one_byte s.0.0 tiny) g.0 in
          let same = pair_is (0xFE00 + s.0.0) code s.0.1 v s.2 in
          let both : Takes w (b.0.0 ∷ s.0.0 ∷ []) s.0.1 = takes_then w b.0.1 s.0.1 (b.0.0 ∷ []) (s.0.0 ∷ []) first second in
          let text : b.0.0 ∷ s.0.0 ∷ [] ≡ code_bytes code =
          ap (λ (x : ℕ). x ∷ s.0.0 ∷ []) at ∙ sym (code_two s.0.0) ∙ ap code_bytes same.0 in
          subst (λ (u : Window). Takes w (code_bytes code) u) same.1 (takes_text w s.0.1 _ _ text both)
      | inr one ↦
          let same = pair_is b.0.0 code b.0.1 v (sym (passed (b.0.0 == 0xFE) _ _ one) ∙ b.2) in
          let text : b.0.0 ∷ [] ≡ code_bytes code = sym (code_one b.0.0 small) ∙ ap code_bytes same.0 in
          subst (λ (u : Window). Takes w (code_bytes code) u) same.1 (takes_text w b.0.1 _ _ text first)
    ]

code_again_one : (w : Window) (code : ℕ) (v : Window) → code < 0xFE → Takes w (code_bytes code) v → code_at w ≡ Ok (code, v)
code_again_one w code v below t =
    let text : code_bytes code ≡ bytes_of 1 code = code_one code (omega arith) ∙ sym (one_byte code (omega arith)) in
    let other : (code == 0xFE) ≡ false = ne_eqb code 0xFE (λ h. omega (arith, h)) in
    code_is w ∙ bind_at (number_at w.place 1 w) (behind_first w.place) (code, v) (Ok (code, v))
    (number_again w.place 1 w code v (omega arith) (takes_text w v _ _ text t))
    (passed (code == 0xFE) _ _ other)

code_again_two : (w : Window) (second : ℕ) (v : Window) → second < 256 → Takes w (code_bytes (0xFE00 + second)) v → code_at w ≡ Ok (0xFE00 + second, v)
code_again_two w second v small t =
    let text : code_bytes (0xFE00 + second) ≡ bytes_of 1 0xFE ++ bytes_of 1 second = code_two second ∙ ap (λ (xs : List ℕ). 0xFE ∷ xs) (sym (one_byte second small)) in
    let both = takes_text w v _ (bytes_of 1 0xFE ++ bytes_of 1 second) text t in
    let u : Window = between w v (bytes_of 1 0xFE) (bytes_of 1 second) in
    code_is w ∙ bind_at (number_at w.place 1 w) (behind_first w.place) (0xFE, u) (Ok (0xFE00 + second, v))
    (number_again w.place 1 w 0xFE u (omega arith) (takes_first w v (bytes_of 1 0xFE) (bytes_of 1 second) both))
    (bind_at (number_at w.place 1 u) (λ s. Ok (0xFE00 + s.0, s.1)) (second, v) (Ok (0xFE00 + second, v))
    (number_again w.place 1 u second v (omega arith) (takes_second w v (bytes_of 1 0xFE) (bytes_of 1 second) both))
    refl)

pub code_again : (w : Window) (code : ℕ) (v : Window) → IsCode code → Takes w (code_bytes code) v → code_at w ≡ Ok (code, v)
code_again w code v (inl below) t = code_again_one w code v below t
code_again w code v (inr two) t =
    let second : ℕ = code - 0xFE00 in
    let same : code ≡ 0xFE00 + second = omega (arith, two.0) in
    ap (λ (x : Result (ℕ × Window) CodeFault). x)
    (code_again_two w second v (omega (arith, two.0, two.1)) (subst (λ (x : ℕ). Takes w (code_bytes x) v) same t)
    ∙ ap (λ (x : ℕ). Ok (x, v)) (sym same))

-- ---- rows

abbrev behind_code : CodeFault → ℕ × Window → Result (Op × Window) CodeFault
behind_code f code = row_or f (op_of code.0) >>= λ op. Ok (op, code.1)

row_is : (w : Window) → row_at w ≡ (code_at w >>= behind_code (fault_at w.place w))
unfolding row_at
row_is w = refl

row_or_ok : (f : CodeFault) (o : Option Op) (op : Op) → row_or f o ≡ Ok op → o ≡ Some op
row_or_ok f None op e = absurd cc
row_or_ok f (Some p) op e = ap (λ (x : Op). Some x) (ok_is p op e)

pub row_takes : (w : Window) (op : Op) (v : Window) → IsBytes w.bytes → row_at w ≡ Ok (op, v) → Takes w (code_bytes op.code) v × (op_of op.code ≡ Some op)
row_takes w op v fits e =
    let b = bind_ok (code_at w) (behind_code (fault_at w.place w)) (op, v) (sym (row_is w) ∙ e) in
    let r = bind_ok (row_or (fault_at w.place w) (op_of b.0.0)) (λ op. Ok (op, b.0.1)) (op, v) b.2 in
    let same = pair_is r.0 op b.0.1 v r.2 in
    let row : op_of b.0.0 ≡ Some op = row_or_ok (fault_at w.place w) (op_of b.0.0) r.0 r.1 ∙ ap (λ (x : Op). Some x) same.0 in
    let code : b.0.0 ≡ op.code = sym (code_of_row b.0.0 op row) in
    let taken : Takes w (code_bytes b.0.0) v = subst (λ (u : Window). Takes w (code_bytes b.0.0) u) same.1 (code_takes w b.0.0 b.0.1 fits b.1) in
    (takes_text w v _ _ (ap code_bytes code) taken, ap op_of (sym code) ∙ row)

pub row_again : (w : Window) (op : Op) (v : Window) → op_of op.code ≡ Some op → Takes w (code_bytes op.code) v → row_at w ≡ Ok (op, v)
row_again w op v row t =
    row_is w ∙ bind_at (code_at w) (behind_code (fault_at w.place w)) (op.code, v) (Ok (op, v))
    (code_again w op.code v (row_has_code op.code op row) t)
    (ap (λ (o : Option Op). row_or (fault_at w.place w) o >>= λ p. Ok (p, v)) row)

-- ---- codes with operands

abbrev behind_row : ℕ → Op × Window → Result (Prefix × Window) CodeFault
behind_row place op = number_at place (width op.0.operand) op.1 >>= λ operand. Ok (record { op = op.0; operand = operand.0 }, operand.1)

coded_is : (w : Window) → coded_at w ≡ (row_at w >>= behind_row w.place)
unfolding coded_at
coded_is w = refl

pub coded_takes : (w : Window) (coded : Prefix) (v : Window) → IsBytes w.bytes → coded_at w ≡ Ok (coded, v) → Takes w (coded_bytes coded) v × IsCoded coded
coded_takes w coded v fits e =
    let b = bind_ok (row_at w) (behind_row w.place) (coded, v) (sym (coded_is w) ∙ e) in
    let r = row_takes w b.0.0 b.0.1 fits b.1 in
    let n = bind_ok (number_at w.place (width b.0.0.operand) b.0.1) (λ operand. Ok (record { op = b.0.0; operand = operand.0 }, operand.1)) (coded, v) b.2 in
    let t = number_takes w.place (width b.0.0.operand) b.0.1 n.0.0 n.0.1 (bytes_behind w b.0.1 _ r.0 fits) n.1 in
    let made : Prefix = record { op = b.0.0; operand = n.0.0 } in
    let same = pair_is made coded n.0.1 v n.2 in
    let both : Takes w (coded_bytes made) n.0.1 = takes_then w b.0.1 n.0.1 _ _ r.0 t.0 in
    let is : IsCoded made = record { row = r.1; fits = t.1 } in
    (subst (λ (p : Prefix). Takes w (coded_bytes p) v) same.0 (subst (λ (u : Window). Takes w (coded_bytes made) u) same.1 both), subst IsCoded same.0 is)

pub coded_again : (w : Window) (coded : Prefix) (v : Window) → IsCoded coded → Takes w (coded_bytes coded) v → coded_at w ≡ Ok (coded, v)
coded_again w coded v is t =
    let code = code_bytes coded.op.code in
    let operand = bytes_of (width coded.op.operand) coded.operand in
    let u : Window = between w v code operand in
    coded_is w ∙ bind_at (row_at w) (behind_row w.place) (coded.op, u) (Ok (coded, v))
    (row_again w coded.op u is.row (takes_first w v code operand t))
    (bind_at (number_at w.place (width coded.op.operand) u) (λ n. Ok (record { op = coded.op; operand = n.0 }, n.1)) (coded.operand, v) (Ok (coded, v))
    (number_again w.place (width coded.op.operand) u coded.operand v is.fits (takes_second w v code operand t))
    refl)

-- it has a byte at least
pub some_bytes : (coded : Prefix) → 0 < length (coded_bytes coded)
some_bytes coded = elim (cases_lt coded.op.code 0x100) [
  | inl below ↦ let e = ap (λ (xs : List ℕ). length (xs ++ bytes_of (width coded.op.operand) coded.operand)) (code_one coded.op.code below) in omega (arith, e)
  | inr above ↦
      let large : nat_lt coded.op.code 0x100 ≡ false = le-ltb coded.op.code 0x100 above in
      let e = ap (λ (xs : List ℕ). length (xs ++ bytes_of (width coded.op.operand) coded.operand)) (passed (nat_lt coded.op.code 0x100) (coded.op.code ∷ []) (0xFE ∷ (coded.op.code - 0xFE00) ∷ []) large) in omega (arith, e)
]
