-- Instructions are read as they are spelled.
use Rattle.std.proofs.Common.{◌≡◌, ℕ, zero, suc, ◌+◌, ◌*◌, ◌^◌, ◌<◌, ◌≤◌, false, cond, List, [], ◌∷◌, ◌++◌, length, take, drop, Result, Ok, Err, inl, inr, refl, sym, ap, subst, ◌∙◌, append_assoc, arith}
use Rattle.std.specs.Prelude.{◌==◌}
use Rattle.std.specs.List.{flat_map, AllByRecursion}
use Rattle.std.proofs.lemmas.Bool.{cases_lt, eqb-true, eq-eqb, ne_eqb}
use Rattle.std.proofs.lemmas.List.{length-append, append-nil, take-append-drop, nil_from_length, length-drop, length-take-le, drop-drop, get_or-take, get_or_past, length-take}
use Rattle.std.proofs.lemmas.List.Concat.{flat_map-cons}
use Rattle.byteorder.specs.Endian.{little_number}
use Rattle.cil_code.specs.declared.code_fault.CodeFault.{CodeFault}
use Rattle.cil_code.specs.declared.body.Prefix.{Prefix}
use Rattle.cil_code.specs.declared.body.Instr.{Instr}
use Rattle.cil_code.specs.declared.body.Placed.{Placed}
use Rattle.cil_code.specs.InstructionSet.{is_switch}
use Rattle.cil_code.specs.Reading.{◌>>=◌, Window, fault_at, behind, front, coded_at, numbers, targets_at, instr_at, list_at}
use Rattle.cil_code.specs.Spelling.{bytes_of, coded_bytes, coded_of, targets_bytes, instr_bytes, code_spelling, IsCoded, IsPrefix, IsInstr, AreInstrs}
use Rattle.cil_code.proofs.Bytes.{IsBytes, IsBytes-rest, length-bytes_of, number-bytes_of, drop-bytes_of, bytes_of-number, number_fits}
use Rattle.cil_code.proofs.Choices.{test_cases, chosen, passed}
use Rattle.cil_code.proofs.Takes.{bind_ok, bind_at, guard_ok, pair_is, ok_is, found, Takes, takes_nothing, stays_there, takes_then, takes_text, between, takes_first, takes_second, bytes_behind, front_takes, front_again}
use Rattle.cil_code.proofs.Coded.{coded_takes, coded_again, some_bytes}

-- ---- targets

IsBytes-take : (n : ℕ) (bytes : List ℕ) → IsBytes bytes → IsBytes (take n bytes)
IsBytes-take n bytes h i = elim (cases_lt i n) [
  | inl lt ↦ rw (get_or-take n bytes i 0 lt) (h i)
  | inr le ↦ rw (get_or_past (take n bytes) i 0 (omega (arith, length-take n bytes))) (omega arith)
]

abbrev pub AreTargets : List ℕ → Type 0
AreTargets ts = AllByRecursion (λ t. t < 256 ^ 4) ts

numbers_take : (n : ℕ) (bytes : List ℕ) → 4 * n ≤ length bytes → IsBytes bytes
    → (bytes ≡ targets_bytes (numbers n bytes) ++ drop (4 * n) bytes) × (length (numbers n bytes) ≡ n) × AreTargets (numbers n bytes)
numbers_take zero bytes within fits = (refl, refl, tt)
numbers_take (suc n) bytes within fits =
    let here : 4 ≤ length bytes = omega (arith, within) in
    let first = bytes_of-number 4 bytes here fits in
    let rest_fits : IsBytes (drop 4 bytes) = IsBytes-rest (bytes_of 4 (little_number 4 bytes)) (drop 4 bytes) (subst IsBytes first fits) in
    let rest = numbers_take n (drop 4 bytes) (omega (arith, length-drop 4 bytes, within)) rest_fits in
    let places : 4 + 4 * n ≡ 4 * suc n = omega arith in
    let after : drop (4 * n) (drop 4 bytes) ≡ drop (4 * suc n) bytes = drop-drop (4 * n) 4 bytes ∙ ap (λ (k : ℕ). drop k bytes) places in
    let number : List ℕ = bytes_of 4 (little_number 4 bytes) in
    let tail = rest.0 ∙ ap (λ (xs : List ℕ). targets_bytes (numbers n (drop 4 bytes)) ++ xs) after in (
      first ∙ ap (λ (xs : List ℕ). number ++ xs) tail
          ∙ sym (append_assoc number (targets_bytes (numbers n (drop 4 bytes))) (drop (4 * suc n) bytes))
          ∙ ap (λ (xs : List ℕ). xs ++ drop (4 * suc n) bytes) (sym (flat_map-cons (bytes_of 4) (little_number 4 bytes) (numbers n (drop 4 bytes)))),
      ap suc rest.1,
      (number_fits 4 bytes here fits, rest.2),
    )

length-targets_bytes : (ts : List ℕ) → length (targets_bytes ts) ≡ 4 * length ts
length-targets_bytes [] = refl
length-targets_bytes (t ∷ ts) =
    let e = length-targets_bytes ts in
    ap (λ (xs : List ℕ). length xs) (flat_map-cons (bytes_of 4) t ts) ∙ length-append (bytes_of 4 t) (targets_bytes ts) ∙ omega (arith, e, length-bytes_of 4 t)

numbers_again : (ts : List ℕ) → AreTargets ts → numbers (length ts) (targets_bytes ts) ≡ ts
numbers_again [] fits = refl
numbers_again (t ∷ ts) fits =
    let whole = flat_map-cons (bytes_of 4) t ts in
    let first : little_number 4 (targets_bytes (t ∷ ts)) ≡ t = ap (little_number 4) whole ∙ number-bytes_of 4 t (targets_bytes ts) fits.0 in
    let rest : drop 4 (targets_bytes (t ∷ ts)) ≡ targets_bytes ts = ap (drop 4) whole ∙ drop-bytes_of 4 t (targets_bytes ts) in
    ap (λ (x : ℕ). x ∷ numbers (length ts) (drop 4 (targets_bytes (t ∷ ts)))) first
    ∙ ap (λ (xs : List ℕ). t ∷ numbers (length ts) xs) rest
    ∙ ap (λ (xs : List ℕ). t ∷ xs) (numbers_again ts fits.1)

abbrev counted : Prefix → ℕ
counted coded = cond (is_switch coded.op.operand) coded.operand 0

abbrev made_targets : ℕ → List ℕ × Window → Result (List ℕ × Window) CodeFault
made_targets count x = Ok (numbers count x.0, x.1)

targets_are : (start : ℕ) (coded : Prefix) (w : Window) → targets_at start coded w
    ≡ cond (is_switch coded.op.operand) (front start (4 * coded.operand) w >>= made_targets coded.operand) (Ok ([], w))
unfolding targets_at
targets_are start coded w = refl

pub targets_take : (start : ℕ) (coded : Prefix) (w : Window) (ts : List ℕ) (v : Window) → IsBytes w.bytes → targets_at start coded w ≡ Ok (ts, v)
    → Takes w (targets_bytes ts) v × (length ts ≡ counted coded) × AreTargets ts
targets_take start coded w ts v fits e = elim (test_cases (is_switch coded.op.operand)) [
  | inl many ↦
      let b = bind_ok (front start (4 * coded.operand) w) (made_targets coded.operand) (ts, v)
      (sym (chosen (is_switch coded.op.operand) _ _ many) ∙ sym (targets_are start coded w) ∙ e) in
      let f = front_takes start (4 * coded.operand) w b.0.0 b.0.1 b.1 in
      let same = pair_is (numbers coded.operand b.0.0) ts b.0.1 v b.2 in
      let whole : w.bytes ≡ b.0.0 ++ drop (4 * coded.operand) w.bytes = sym (take-append-drop (4 * coded.operand) w.bytes) ∙ ap (λ (xs : List ℕ). xs ++ drop (4 * coded.operand) w.bytes) (sym f.2) in
      let size : length b.0.0 ≡ 4 * coded.operand = ap (λ (xs : List ℕ). length xs) f.2 ∙ length-take-le (4 * coded.operand) w.bytes f.1 in
      let front_fits : IsBytes b.0.0 = subst IsBytes (sym f.2) (IsBytes-take (4 * coded.operand) w.bytes fits) in
      let n = numbers_take coded.operand b.0.0 (omega (arith, size)) front_fits in
      let ended : drop (4 * coded.operand) b.0.0 ≡ [] = nil_from_length (drop (4 * coded.operand) b.0.0) (omega (arith, length-drop (4 * coded.operand) b.0.0, size)) in
      let text : b.0.0 ≡ targets_bytes ts = n.0 ∙ ap (λ (xs : List ℕ). targets_bytes (numbers coded.operand b.0.0) ++ xs) ended
      ∙ append-nil (targets_bytes (numbers coded.operand b.0.0)) ∙ ap targets_bytes same.0 in
      let taken : Takes w b.0.0 (behind (4 * coded.operand) w) = record { header = refl; place = omega (arith, size); left = omega (arith, size, f.0); bytes = whole } in (
        takes_text w v _ _ text (subst (λ (u : Window). Takes w b.0.0 u) (sym f.3 ∙ same.1) taken),
        ap (λ (xs : List ℕ). length xs) (sym same.0) ∙ n.1 ∙ sym (chosen (is_switch coded.op.operand) coded.operand 0 many),
        subst AreTargets same.0 n.2,
      )
  | inr none ↦
      let same = pair_is [] ts w v (sym (passed (is_switch coded.op.operand) _ _ none) ∙ sym (targets_are start coded w) ∙ e) in
      let nothing : Takes w (targets_bytes ts) w = takes_text w w _ _ (ap targets_bytes same.0) (takes_nothing w) in (
        subst (λ (u : Window). Takes w (targets_bytes ts) u) same.1 nothing,
        ap (λ (xs : List ℕ). length xs) (sym same.0) ∙ sym (passed (is_switch coded.op.operand) coded.operand 0 none),
        subst AreTargets same.0 tt,
      )
]

pub targets_again : (start : ℕ) (coded : Prefix) (w : Window) (ts : List ℕ) (v : Window) → length ts ≡ counted coded → AreTargets ts
    → Takes w (targets_bytes ts) v → targets_at start coded w ≡ Ok (ts, v)
targets_again start coded w ts v count fits t = elim (test_cases (is_switch coded.op.operand)) [
  | inl many ↦
      let n : length ts ≡ coded.operand = count ∙ chosen (is_switch coded.op.operand) coded.operand 0 many in
      let size : length (targets_bytes ts) ≡ 4 * coded.operand = length-targets_bytes ts ∙ ap (λ (k : ℕ). 4 * k) n in
      let read : numbers coded.operand (targets_bytes ts) ≡ ts = ap (λ (k : ℕ). numbers k (targets_bytes ts)) (sym n) ∙ numbers_again ts fits in
      targets_are start coded w ∙ chosen (is_switch coded.op.operand) _ _ many
      ∙ bind_at (front start (4 * coded.operand) w) (made_targets coded.operand) (targets_bytes ts, v) (Ok (ts, v))
      (front_again start (4 * coded.operand) w (targets_bytes ts) v size t)
      (ap (λ (xs : List ℕ). Ok (xs, v)) read)
  | inr none ↦
      let n : length ts ≡ 0 = count ∙ passed (is_switch coded.op.operand) coded.operand 0 none in
      let nothing : ts ≡ [] = nil_from_length ts n in
      let stays : w ≡ v = stays_there w v (takes_text w v _ _ (ap targets_bytes nothing) t) in
      targets_are start coded w ∙ passed (is_switch coded.op.operand) _ _ none
      ∙ ap (λ (xs : List ℕ). Ok (xs, w)) (sym nothing) ∙ ap (λ (u : Window). Ok (ts, u)) stays
]

-- ---- one instruction with its prefixes

abbrev prefixes_bytes : List Prefix → List ℕ
prefixes_bytes ps = flat_map coded_bytes ps

abbrev own_bytes : Instr → List ℕ
own_bytes i = coded_bytes (coded_of i) ++ targets_bytes i.targets

-- what follows the code and operand of an instruction or a prefix
abbrev made_instr : List Prefix → Prefix → List ℕ × Window → Result (Instr × Window) CodeFault
made_instr prefixes coded targets = Ok (record { prefixes = prefixes; op = coded.op; operand = coded.operand; targets = targets.0 }, targets.1)

abbrev behind_coded : ℕ → List Prefix → Window → Prefix × Window → Result (Instr × Window) CodeFault
behind_coded n prefixes w coded =
    cond coded.0.op.is_prefix
    (cond (coded.1.left == 0) (Err (fault_at w.place w)) (instr_at n (prefixes ++ coded.0 ∷ []) coded.1))
    (targets_at w.place coded.0 coded.1 >>= made_instr prefixes coded.0)

instr_is : (n : ℕ) (prefixes : List Prefix) (w : Window) → instr_at (suc n) prefixes w ≡ (coded_at w >>= behind_coded n prefixes w)
unfolding instr_at
instr_is n prefixes w = refl

no_instr : (prefixes : List Prefix) (w : Window) → instr_at zero prefixes w ≡ Err (fault_at w.place w)
unfolding instr_at
no_instr prefixes w = refl

-- an instruction that was read stands there, behind these prefixes
record Reads (before : List Prefix) (w : Window) (i : Instr) (v : Window) : Type 0 where
  more : List Prefix
  prefixes : i.prefixes ≡ before ++ more
  are : AllByRecursion IsPrefix more
  text : Takes w (prefixes_bytes more ++ own_bytes i) v
  coded : IsCoded (coded_of i)
  own : i.op.is_prefix ≡ false
  count : length i.targets ≡ counted (coded_of i)
  targets : AreTargets i.targets

fault_not_found : {A : Type 0} (f : CodeFault) (x : A) (v : Window) → Err f ≡ found x v → ⊥
fault_not_found f x v e = cc

cons_prefix : (p : Prefix) (ps : List Prefix) (rest : List ℕ) → coded_bytes p ++ (prefixes_bytes ps ++ rest) ≡ prefixes_bytes (p ∷ ps) ++ rest
cons_prefix p ps rest = sym (append_assoc (coded_bytes p) (prefixes_bytes ps) rest) ∙ ap (λ (xs : List ℕ). xs ++ rest) (sym (flat_map-cons coded_bytes p ps))

instr_reads : (n : ℕ) (before : List Prefix) (w : Window) (i : Instr) (v : Window) → IsBytes w.bytes → instr_at n before w ≡ Ok (i, v) → Reads before w i v
instr_reads zero before w i v fits e = absurd (fault_not_found (fault_at w.place w) i v (sym (no_instr before w) ∙ e))
instr_reads (suc n) before w i v fits e =
    let b = bind_ok (coded_at w) (behind_coded n before w) (i, v) (sym (instr_is n before w) ∙ e) in
    let p : Prefix = b.0.0 in
    let u : Window = b.0.1 in
    let c = coded_takes w p u fits b.1 in
    let u_fits : IsBytes u.bytes = bytes_behind w u (coded_bytes p) c.0 fits in
    elim (test_cases p.op.is_prefix) [
      | inl prefix ↦
          let going = guard_ok (u.left == 0) (fault_at w.place w) (instr_at n (before ++ p ∷ []) u) (i, v) (sym (chosen p.op.is_prefix _ _ prefix) ∙ b.2) in
          let r = instr_reads n (before ++ p ∷ []) u i v u_fits going.1 in
          let is : IsPrefix p = record { coded = c.1; precedes = prefix } in
          record {
            more = p ∷ r.more;
            prefixes = r.prefixes ∙ append_assoc before (p ∷ []) r.more;
            are = (is, r.are);
            text = takes_text w v _ _ (cons_prefix p r.more (own_bytes i)) (takes_then w u v (coded_bytes p) (prefixes_bytes r.more ++ own_bytes i) c.0 r.text);
            coded = r.coded;
            own = r.own;
            count = r.count;
            targets = r.targets;
          }
      | inr own ↦
          let t = bind_ok (targets_at w.place p u) (made_instr before p) (i, v) (sym (passed p.op.is_prefix _ _ own) ∙ b.2) in
          let made : Instr = record { prefixes = before; op = p.op; operand = p.operand; targets = t.0.0 } in
          let same = pair_is made i t.0.1 v t.2 in
          let ts = targets_take w.place p u t.0.0 t.0.1 u_fits t.1 in
          let read : Reads before w made t.0.1 = record {
            more = [];
            prefixes = sym (append-nil before);
            are = tt;
            text = takes_then w u t.0.1 (coded_bytes p) (targets_bytes t.0.0) c.0 ts.0;
            coded = c.1;
            own = own;
            count = ts.1;
            targets = ts.2;
          } in
          subst (λ (x : Instr). Reads before w x v) same.0 (subst (λ (x : Window). Reads before w made x) same.1 read)
    ]

pub instr_takes : (n : ℕ) (w : Window) (i : Instr) (v : Window) → IsBytes w.bytes → instr_at n [] w ≡ Ok (i, v) → Takes w (instr_bytes i) v × IsInstr i
instr_takes n w i v fits e =
    let r = instr_reads n [] w i v fits e in
    let all : r.more ≡ i.prefixes = sym r.prefixes in (
      takes_text w v _ _ (ap (λ (ps : List Prefix). prefixes_bytes ps ++ own_bytes i) all) r.text,
      record { prefixes = subst (AllByRecursion IsPrefix) all r.are; coded = r.coded; own = r.own; count = r.count; targets = r.targets },
    )

some_own : (i : Instr) → 0 < length (own_bytes i)
some_own i = omega (arith, some_bytes (coded_of i), length-append (coded_bytes (coded_of i)) (targets_bytes i.targets))

with_prefixes : (ps qs : List Prefix) (i : Instr) (v : Window) → ps ≡ i.prefixes → made_instr ps (coded_of i) (i.targets, v) ≡ found i v
with_prefixes ps qs i v e = ap (λ (xs : List Prefix). made_instr xs (coded_of i) (i.targets, v)) e

instr_from : (more before : List Prefix) (n : ℕ) (w v : Window) (i : Instr) → AllByRecursion IsPrefix more → IsCoded (coded_of i) → i.op.is_prefix ≡ false
    → length i.targets ≡ counted (coded_of i) → AreTargets i.targets → before ++ more ≡ i.prefixes → w.left ≤ n
    → Takes w (prefixes_bytes more ++ own_bytes i) v → instr_at n before w ≡ Ok (i, v)
instr_from [] before zero w v i are coded own count targets same enough t =
    absurd (omega (arith, enough, t.left, some_own i))
instr_from [] before (suc n) w v i are coded own count targets same enough t =
    let u : Window = between w v (coded_bytes (coded_of i)) (targets_bytes i.targets) in
    let prefixes : before ≡ i.prefixes = sym (append-nil before) ∙ same in
    instr_is n before w ∙ bind_at (coded_at w) (behind_coded n before w) (coded_of i, u) (Ok (i, v))
    (coded_again w (coded_of i) u coded (takes_first w v (coded_bytes (coded_of i)) (targets_bytes i.targets) t))
    (passed i.op.is_prefix _ _ own ∙ bind_at (targets_at w.place (coded_of i) u) (made_instr before (coded_of i)) (i.targets, v) (Ok (i, v))
    (targets_again w.place (coded_of i) u i.targets v count targets (takes_second w v (coded_bytes (coded_of i)) (targets_bytes i.targets) t))
    (with_prefixes before [] i v prefixes))
instr_from (p ∷ more) before zero w v i are coded own count targets same enough t =
    let whole = takes_text w v _ _ (sym (cons_prefix p more (own_bytes i))) t in
    absurd (omega (arith, enough, whole.left, some_bytes p, length-append (coded_bytes p) (prefixes_bytes more ++ own_bytes i)))
instr_from (p ∷ more) before (suc n) w v i are coded own count targets same enough t =
    let rest : List ℕ = prefixes_bytes more ++ own_bytes i in
    let whole = takes_text w v _ _ (sym (cons_prefix p more (own_bytes i))) t in
    let u : Window = between w v (coded_bytes p) rest in
    let size = length-append (prefixes_bytes more) (own_bytes i) in
    let less : u.left ≤ n = omega (arith, enough, whole.left, some_bytes p, length-append (coded_bytes p) rest) in
    let some : 0 < u.left = omega (arith, size, some_own i) in
    let going : (u.left == 0) ≡ false = ne_eqb u.left 0 (λ h. omega (arith, some, h)) in
    instr_is n before w ∙ bind_at (coded_at w) (behind_coded n before w) (p, u) (Ok (i, v))
    (coded_again w p u are.0.coded (takes_first w v (coded_bytes p) rest whole))
    (chosen p.op.is_prefix _ _ are.0.precedes ∙ passed (u.left == 0) _ _ going
    ∙ instr_from more (before ++ p ∷ []) n u v i are.1 coded own count targets (append_assoc before (p ∷ []) more ∙ same) less (takes_second w v (coded_bytes p) rest whole))

pub instr_again : (n : ℕ) (w v : Window) (i : Instr) → IsInstr i → w.left ≤ n → Takes w (instr_bytes i) v → instr_at n [] w ≡ Ok (i, v)
instr_again n w v i is enough t = instr_from i.prefixes [] n w v i is.prefixes is.coded is.own is.count is.targets refl enough t

pub some_instr : (i : Instr) → 0 < length (instr_bytes i)
some_instr i = omega (arith, some_own i, length-append (prefixes_bytes i.prefixes) (own_bytes i))

-- ---- the list of instructions

abbrev behind_instr : ℕ → Window → Instr × Window → Result (List Placed) CodeFault
behind_instr n w first = list_at n first.1 >>= λ rest. Ok (record { place = w.place; instr = first.0 } ∷ rest)

list_is : (n : ℕ) (w : Window) → list_at (suc n) w ≡ cond (w.left == 0) (Ok []) (instr_at w.left [] w >>= behind_instr n w)
unfolding list_at
list_is n w = refl

no_list : (w : Window) → list_at zero w ≡ Ok []
unfolding list_at
no_list w = refl

-- the instructions from this window on
pub record Lists (w : Window) (ps : List Placed) : Type 0 where
  pub more : List ℕ
  pub bytes : w.bytes ≡ code_spelling ps ++ more
  pub left : w.left ≡ length (code_spelling ps)
  pub are : AreInstrs w.place ps

nothing_listed : (w : Window) → w.left ≡ 0 → Lists w []
nothing_listed w ended = record { more = w.bytes; bytes = refl; left = ended; are = tt }

cons_spelling : (p : Placed) (ps : List Placed) → code_spelling (p ∷ ps) ≡ instr_bytes p.instr ++ code_spelling ps
cons_spelling p ps = flat_map-cons (λ q. instr_bytes q.instr) p ps

pub list_takes : (n : ℕ) (w : Window) (ps : List Placed) → IsBytes w.bytes → w.left ≤ n → list_at n w ≡ Ok ps → Lists w ps
list_takes zero w ps fits enough e =
    subst (λ (x : List Placed). Lists w x) (ok_is [] ps (sym (no_list w) ∙ e)) (nothing_listed w (omega (arith, enough)))
list_takes (suc n) w ps fits enough e = elim (test_cases (w.left == 0)) [
  | inl ended ↦
      subst (λ (x : List Placed). Lists w x) (ok_is [] ps (sym (chosen (w.left == 0) _ _ ended) ∙ sym (list_is n w) ∙ e)) (nothing_listed w (eqb-true w.left 0 ended))
  | inr going ↦
      let b = bind_ok (instr_at w.left [] w) (behind_instr n w) ps (sym (passed (w.left == 0) _ _ going) ∙ sym (list_is n w) ∙ e) in
      let i : Instr = b.0.0 in
      let v : Window = b.0.1 in
      let first = instr_takes w.left w i v fits b.1 in
      let less : v.left ≤ n = omega (arith, enough, first.0.left, some_instr i) in
      let p : Placed = record { place = w.place; instr = i } in
      let r = bind_ok (list_at n v) (λ rest. Ok (p ∷ rest)) ps b.2 in
      let l = list_takes n v r.0 (bytes_behind w v (instr_bytes i) first.0 fits) less r.1 in
      let spelling : code_spelling (p ∷ r.0) ≡ instr_bytes i ++ code_spelling r.0 = cons_spelling p r.0 in
      let size = ap (λ (xs : List ℕ). length xs) spelling ∙ length-append (instr_bytes i) (code_spelling r.0) in
      let whole : Lists w (p ∷ r.0) = record {
        more = l.more;
        bytes = first.0.bytes ∙ ap (λ (xs : List ℕ). instr_bytes i ++ xs) l.bytes ∙ sym (append_assoc (instr_bytes i) (code_spelling r.0) l.more)
            ∙ ap (λ (xs : List ℕ). xs ++ l.more) (sym spelling);
        left = omega (arith, first.0.left, l.left, size);
        are = (refl, first.1, subst (λ (place : ℕ). AreInstrs place r.0) first.0.place l.are);
      } in
      subst (λ (x : List Placed). Lists w x) (ok_is (p ∷ r.0) ps r.2) whole
]

abbrev placed : ℕ → Instr → Placed
placed place i = record { place = place; instr = i }

pub list_again : (ps : List Placed) (n : ℕ) (w : Window) → w.left ≤ n → Lists w ps → list_at n w ≡ Ok ps
list_again [] zero w enough l = no_list w
list_again [] (suc n) w enough l = list_is n w ∙ chosen (w.left == 0) _ _ (eq-eqb w.left 0 l.left)
list_again (p ∷ ps) zero w enough l =
    let size = ap (λ (xs : List ℕ). length xs) (cons_spelling p ps) ∙ length-append (instr_bytes p.instr) (code_spelling ps) in
    absurd (omega (arith, enough, l.left, size, some_instr p.instr))
list_again (p ∷ ps) (suc n) w enough l =
    let i : Instr = p.instr in
    let size = ap (λ (xs : List ℕ). length xs) (cons_spelling p ps) ∙ length-append (instr_bytes i) (code_spelling ps) in
    let some : 0 < w.left = omega (arith, l.left, size, some_instr i) in
    let going : (w.left == 0) ≡ false = ne_eqb w.left 0 (λ h. omega (arith, some, h)) in
    let v : Window = record { header = w.header; place = w.place + length (instr_bytes i); left = length (code_spelling ps); bytes = code_spelling ps ++ l.more } in
    let t : Takes w (instr_bytes i) v = record {
      header = refl;
      place = refl;
      left = omega (arith, l.left, size);
      bytes = l.bytes ∙ ap (λ (xs : List ℕ). xs ++ l.more) (cons_spelling p ps) ∙ append_assoc (instr_bytes i) (code_spelling ps) l.more;
    } in
    let rest : Lists v ps = record { more = l.more; bytes = refl; left = refl; are = l.are.2 } in
    let here : placed w.place i ≡ p = ap (λ (k : ℕ). placed k i) (sym l.are.0) in
    list_is n w ∙ passed (w.left == 0) _ _ going
    ∙ bind_at (instr_at w.left [] w) (behind_instr n w) (i, v) (Ok (p ∷ ps))
    (instr_again w.left w v i l.are.1 (omega arith) t)
    (bind_at (list_at n v) (λ xs. Ok (placed w.place i ∷ xs)) ps (Ok (p ∷ ps))
    (list_again ps n v (omega (arith, enough, l.left, size, some_instr i)) rest)
    (ap (λ (x : Placed). Ok (x ∷ ps)) here))
