-- The two laws of bodies: what is decoded is spelled so, and what is spelled so is decoded.
use Rattle.std.proofs.Common.{◌≡◌, ℕ, ◌+◌, ◌*◌, ◌/◌, ◌%◌, ◌^◌, ◌<◌, ◌≤◌, Bool, true, false, cond, List, [], ◌∷◌, ◌++◌, length, drop, slice_index, Result, Ok, Err, inl, inr, refl, sym, ap, subst, ◌∙◌, append_assoc, arith}
use Rattle.std.specs.Prelude.{◌==◌, nat_lt, IfOk}
use Rattle.std.proofs.lemmas.Bool.{eqb-true, eqb-false, eq-eqb, ne_eqb, ltb-false, le-ltb}
use Rattle.std.proofs.lemmas.List.{drop-drop, length-drop, length-append, get_or-drop}
use Rattle.byteorder.specs.Endian.{little_number}
use Rattle.cil_code.specs.declared.code_fault.CodeFault.{CodeFault}
use Rattle.cil_code.specs.declared.code_fault.CodeFault.TheVariants as fault
use Rattle.cil_code.specs.declared.body.Body.{Body}
use Rattle.cil_code.specs.declared.body.Placed.{Placed}
use Rattle.cil_code.specs.Reading.{◌>>=◌, Gives, Window, list_at}
use Rattle.cil_code.specs.Decoding.{is_locals_token, has_flag, code_of, tiny_of, fat_of, body_of}
use Rattle.cil_code.specs.Spelling.{bytes_of, code_spelling, AreInstrs, Spells}
use Rattle.cil_code.proofs.Bytes.{IsBytes, length-bytes_of, number-bytes_of, drop-bytes_of, bytes_of-number, number_fits}
use Rattle.cil_code.proofs.Choices.{test_cases, chosen, passed}
use Rattle.cil_code.proofs.Takes.{bind_ok, bind_at, guard_ok, ok_is, done}
use Rattle.cil_code.proofs.Instrs.{Lists, list_takes, list_again}

guard_else : {A : Type 0} (b : Bool) (d : CodeFault) (r : Result A CodeFault) (y : A) → cond b r (Err d) ≡ Ok y → (b ≡ true) × (r ≡ Ok y)
guard_else true d r y e = (refl, e)
guard_else false d r y e = absurd cc

abbrev made : ℕ → Bool → ℕ → List Placed → Body
made max_stack init locals code = record { max_stack = max_stack; init = init; locals = locals; code = code }

made_is : (m : ℕ) (i : Bool) (l : ℕ) (body : Body) → m ≡ body.max_stack → i ≡ body.init → l ≡ body.locals → made m i l body.code ≡ body
made_is m i l body a b c =
    ap (λ (x : ℕ). made x i l body.code) a
    ∙ ap (λ (x : Bool). made body.max_stack x l body.code) b
    ∙ ap (λ (x : ℕ). made body.max_stack body.init x body.code) c

IsBytes-drop : (n : ℕ) (bytes : List ℕ) → IsBytes bytes → IsBytes (drop n bytes)
IsBytes-drop n bytes h i = rw get_or-drop (h (n + i))

-- ---- code

abbrev window : ℕ → ℕ → List ℕ → Window
window header size bytes = record { header = header; place = 0; left = size; bytes = drop header bytes }

code_is : (header size : ℕ) (bytes : List ℕ) → code_of header size bytes ≡ list_at size (window header size bytes)
unfolding code_of
code_is header size bytes = refl

code_takes : (header size : ℕ) (bytes : List ℕ) (ps : List Placed) → IsBytes bytes → code_of header size bytes ≡ Ok ps → Lists (window header size bytes) ps
code_takes header size bytes ps fits e =
    list_takes size (window header size bytes) ps (IsBytes-drop header bytes fits) (omega arith) (sym (code_is header size bytes) ∙ e)

code_again : (header size : ℕ) (bytes more : List ℕ) (ps : List Placed) → size ≡ length (code_spelling ps) → drop header bytes ≡ code_spelling ps ++ more → AreInstrs 0 ps
    → code_of header size bytes ≡ Ok ps
code_again header size bytes more ps left there are =
    code_is header size bytes ∙ list_again ps size (window header size bytes) (omega arith) (record { more = more; bytes = there; left = left; are = are })

-- ---- a tiny header

tiny_is : (first : ℕ) (bytes : List ℕ) → tiny_of first bytes ≡ (code_of 1 (first / 4) bytes >>= λ code. Ok (made 8 false 0 code))
unfolding tiny_of
tiny_is first bytes = refl

first_of : (bytes : List ℕ) → 0 < length bytes → bytes ≡ slice_index bytes 0 ∷ drop 1 bytes
first_of [] some = absurd (omega (arith, some))
first_of (b ∷ bytes) some = refl

tiny_takes : (bytes : List ℕ) (body : Body) → IsBytes bytes → 0 < length bytes → slice_index bytes 0 % 4 ≡ 2 → tiny_of (slice_index bytes 0) bytes ≡ Ok body → Spells body bytes
tiny_takes bytes body fits some format e =
    let first : ℕ = slice_index bytes 0 in
    let small : first < 256 = fits 0 in
    let b = bind_ok (code_of 1 (first / 4) bytes) (λ code. Ok (made 8 false 0 code)) body (sym (tiny_is first bytes) ∙ e) in
    let l = code_takes 1 (first / 4) bytes b.0 fits b.1 in
    let size : first / 4 ≡ length (code_spelling b.0) = l.left in
    let header : first ∷ [] ≡ (4 * length (code_spelling b.0) + 2) ∷ [] = ap (λ (x : ℕ). x ∷ []) (omega (arith, format, size)) in
    let spelled : Spells (made 8 false 0 b.0) bytes = record {
      header = first ∷ [];
      more = l.more;
      whole = first_of bytes some ∙ ap (λ (xs : List ℕ). first ∷ xs) l.bytes;
      head = inl (record { bytes = header; size_fits = omega (arith, small, size); max_stack = refl; init = refl; locals = refl });
      instrs = l.are;
    } in
    subst (λ (x : Body). Spells x bytes) (ok_is (made 8 false 0 b.0) body b.2) spelled

-- ---- a fat header

abbrev fat_code : ℕ → List ℕ → Result Body CodeFault
fat_code first bytes = code_of 12 (little_number 4 (drop 4 bytes)) bytes >>= λ code.
    Ok (made (little_number 2 (drop 2 bytes)) (has_flag first 0x10) (little_number 4 (drop 8 bytes)) code)

fat_is : (first : ℕ) (bytes : List ℕ) → fat_of first bytes
    ≡ cond (has_flag first 0x8) (Err (fault.NotInProfile 0))
    (cond (nat_lt (length bytes) 12) (Err (fault.BadBody (length bytes)))
    (cond (is_locals_token (little_number 4 (drop 8 bytes))) (fat_code first bytes) (Err (fault.BadBody 8))))
unfolding fat_of
fat_is first bytes = refl

two_of : (bytes : List ℕ) → 2 ≤ length bytes → bytes ≡ slice_index bytes 0 ∷ slice_index bytes 1 ∷ drop 2 bytes
two_of [] some = absurd (omega (arith, some))
two_of (a ∷ []) some = absurd (omega (arith, some))
two_of (a ∷ b ∷ bytes) some = refl

-- the three numbers of a fat header
numbers_of : (bytes : List ℕ) → IsBytes bytes → 12 ≤ length bytes → drop 2 bytes
    ≡ (bytes_of 2 (little_number 2 (drop 2 bytes)) ++ (bytes_of 4 (little_number 4 (drop 4 bytes)) ++ bytes_of 4 (little_number 4 (drop 8 bytes)))) ++ drop 12 bytes
numbers_of bytes fits long =
    let stack : List ℕ = bytes_of 2 (little_number 2 (drop 2 bytes)) in
    let size : List ℕ = bytes_of 4 (little_number 4 (drop 4 bytes)) in
    let locals : List ℕ = bytes_of 4 (little_number 4 (drop 8 bytes)) in
    let one : drop 2 bytes ≡ stack ++ drop 4 bytes =
    bytes_of-number 2 (drop 2 bytes) (omega (arith, length-drop 2 bytes, long)) (IsBytes-drop 2 bytes fits) ∙ ap (λ (xs : List ℕ). stack ++ xs) (drop-drop 2 2 bytes) in
    let two : drop 4 bytes ≡ size ++ drop 8 bytes =
    bytes_of-number 4 (drop 4 bytes) (omega (arith, length-drop 4 bytes, long)) (IsBytes-drop 4 bytes fits) ∙ ap (λ (xs : List ℕ). size ++ xs) (drop-drop 4 4 bytes) in
    let three : drop 8 bytes ≡ locals ++ drop 12 bytes =
    bytes_of-number 4 (drop 8 bytes) (omega (arith, length-drop 8 bytes, long)) (IsBytes-drop 8 bytes fits) ∙ ap (λ (xs : List ℕ). locals ++ xs) (drop-drop 4 8 bytes) in
    one ∙ ap (λ (xs : List ℕ). stack ++ xs) (two ∙ ap (λ (xs : List ℕ). size ++ xs) three ∙ sym (append_assoc size locals (drop 12 bytes)))
    ∙ sym (append_assoc stack (size ++ locals) (drop 12 bytes))

fat_takes : (bytes : List ℕ) (body : Body) → IsBytes bytes → 0 < length bytes → slice_index bytes 0 % 4 ≡ 3 → fat_of (slice_index bytes 0) bytes ≡ Ok body → Spells body bytes
fat_takes bytes body fits some format e =
    let first : ℕ = slice_index bytes 0 in
    let second : ℕ = slice_index bytes 1 in
    let stack : ℕ = little_number 2 (drop 2 bytes) in
    let size : ℕ = little_number 4 (drop 4 bytes) in
    let locals : ℕ = little_number 4 (drop 8 bytes) in
    let a = guard_ok (has_flag first 0x8) _ _ body (sym (fat_is first bytes) ∙ e) in
    let b = guard_ok (nat_lt (length bytes) 12) _ _ body a.1 in
    let long : 12 ≤ length bytes = ltb-false (length bytes) 12 b.0 in
    let c = guard_else (is_locals_token locals) (fault.BadBody 8) (fat_code first bytes) body b.1 in
    let d = bind_ok (code_of 12 size bytes) (λ code. Ok (made stack (has_flag first 0x10) locals code)) body c.1 in
    let l = code_takes 12 size bytes d.0 fits d.1 in
    let numbers : List ℕ = bytes_of 2 stack ++ (bytes_of 4 size ++ bytes_of 4 locals) in
    let spelled : Spells (made stack (has_flag first 0x10) locals d.0) bytes = record {
      header = first ∷ second ∷ numbers;
      more = l.more;
      whole = two_of bytes (omega (arith, long))
          ∙ ap (λ (xs : List ℕ). first ∷ second ∷ xs) (numbers_of bytes fits long ∙ ap (λ (xs : List ℕ). numbers ++ xs) l.bytes);
      head = inr (record {
        flags = first;
        second = second;
        bytes = ap (λ (n : ℕ). first ∷ second ∷ (bytes_of 2 stack ++ (bytes_of 4 n ++ bytes_of 4 locals))) l.left;
        format = format;
        sections = a.0;
        init = refl;
        token = c.0;
        max_stack_fits = number_fits 2 (drop 2 bytes) (omega (arith, length-drop 2 bytes, long)) (IsBytes-drop 2 bytes fits);
        size_fits = subst (λ (n : ℕ). n < 256 ^ 4) l.left (number_fits 4 (drop 4 bytes) (omega (arith, length-drop 4 bytes, long)) (IsBytes-drop 4 bytes fits));
        locals_fits = number_fits 4 (drop 8 bytes) (omega (arith, length-drop 8 bytes, long)) (IsBytes-drop 8 bytes fits);
      });
      instrs = l.are;
    } in
    subst (λ (x : Body). Spells x bytes) (ok_is (made stack (has_flag first 0x10) locals d.0) body d.2) spelled

-- ---- bodies

body_is : (bytes : List ℕ) → body_of bytes
    ≡ cond (length bytes == 0) (Err (fault.BadBody 0))
    (cond (slice_index bytes 0 % 4 == 2) (tiny_of (slice_index bytes 0) bytes)
    (cond (slice_index bytes 0 % 4 == 3) (fat_of (slice_index bytes 0) bytes) (Err (fault.BadBody 0))))
unfolding body_of
body_is bytes = refl

pub body_takes : (bytes : List ℕ) (body : Body) → IsBytes bytes → body_of bytes ≡ Ok body → Spells body bytes
body_takes bytes body fits e =
    let first : ℕ = slice_index bytes 0 in
    let a = guard_ok (length bytes == 0) _ _ body (sym (body_is bytes) ∙ e) in
    let some : 0 < length bytes = omega (arith, eqb-false (length bytes) 0 a.0) in
    elim (test_cases (first % 4 == 2)) [
      | inl tiny ↦ tiny_takes bytes body fits some (eqb-true (first % 4) 2 tiny) (sym (chosen (first % 4 == 2) _ _ tiny) ∙ a.1)
      | inr other ↦
          let b = guard_else (first % 4 == 3) (fault.BadBody 0) (fat_of first bytes) body (sym (passed (first % 4 == 2) _ _ other) ∙ a.1) in
          fat_takes bytes body fits some (eqb-true (first % 4) 3 b.0) b.1
    ]

tiny_again : (size : ℕ) (more : List ℕ) (body : Body) → size ≡ length (code_spelling body.code) → body.max_stack ≡ 8 → body.init ≡ false → body.locals ≡ 0
    → AreInstrs 0 body.code → body_of ((4 * size + 2) ∷ (code_spelling body.code ++ more)) ≡ Ok body
tiny_again size more body left stack init locals are =
    let first : ℕ = 4 * size + 2 in
    let rest : List ℕ = code_spelling body.code ++ more in
    let bytes : List ℕ = first ∷ rest in
    let some : (length bytes == 0) ≡ false = ne_eqb (length bytes) 0 (λ h. omega (arith, h)) in
    let format : (first % 4 == 2) ≡ true = eq-eqb (first % 4) 2 (omega arith) in
    let upper : first / 4 ≡ length (code_spelling body.code) = omega (arith, left) in
    body_is bytes ∙ passed (length bytes == 0) _ _ some ∙ chosen (first % 4 == 2) _ _ format
    ∙ tiny_is first bytes
    ∙ bind_at (code_of 1 (first / 4) bytes) (λ code. Ok (made 8 false 0 code)) body.code (Ok body)
    (code_again 1 (first / 4) bytes more body.code upper refl are)
    (ap (λ (x : Body). done x) (made_is 8 false 0 body (sym stack) (sym init) (sym locals)))

fat_again : (flags second size : ℕ) (more : List ℕ) (body : Body) → size ≡ length (code_spelling body.code) → flags % 4 ≡ 3 → has_flag flags 0x8 ≡ false
    → body.init ≡ has_flag flags 0x10 → is_locals_token body.locals ≡ true → body.max_stack < 256 ^ 2 → size < 256 ^ 4 → body.locals < 256 ^ 4 → AreInstrs 0 body.code
    → body_of (flags ∷ second ∷ (bytes_of 2 body.max_stack ++ (bytes_of 4 size ++ (bytes_of 4 body.locals ++ (code_spelling body.code ++ more))))) ≡ Ok body
fat_again flags second size more body left format sections init token stack_fits size_fits locals_fits are =
    let code : List ℕ = code_spelling body.code ++ more in
    let b8 : List ℕ = bytes_of 4 body.locals ++ code in
    let b4 : List ℕ = bytes_of 4 size ++ b8 in
    let b2 : List ℕ = bytes_of 2 body.max_stack ++ b4 in
    let bytes : List ℕ = flags ∷ second ∷ b2 in
    let d4 : drop 4 bytes ≡ b4 = drop-bytes_of 2 body.max_stack b4 in
    let d8 : drop 8 bytes ≡ b8 = sym (drop-drop 4 4 bytes) ∙ ap (drop 4) d4 ∙ drop-bytes_of 4 size b8 in
    let d12 : drop 12 bytes ≡ code = sym (drop-drop 4 8 bytes) ∙ ap (drop 4) d8 ∙ drop-bytes_of 4 body.locals code in
    let stack : little_number 2 (drop 2 bytes) ≡ body.max_stack = number-bytes_of 2 body.max_stack b4 stack_fits in
    let long_code : little_number 4 (drop 4 bytes) ≡ size = ap (little_number 4) d4 ∙ number-bytes_of 4 size b8 size_fits in
    let locals : little_number 4 (drop 8 bytes) ≡ body.locals = ap (little_number 4) d8 ∙ number-bytes_of 4 body.locals code locals_fits in
    let some : (length bytes == 0) ≡ false = ne_eqb (length bytes) 0 (λ h. omega (arith, h)) in
    let not_tiny : (flags % 4 == 2) ≡ false = ne_eqb (flags % 4) 2 (λ h. omega (arith, h, format)) in
    let is_fat : (flags % 4 == 3) ≡ true = eq-eqb (flags % 4) 3 format in
    let size_of : length bytes ≡ 12 + length code = omega (arith, length-append (bytes_of 2 body.max_stack) b4, length-append (bytes_of 4 size) b8, length-append (bytes_of 4 body.locals) code, length-bytes_of 2 body.max_stack, length-bytes_of 4 size, length-bytes_of 4 body.locals) in
    let long : nat_lt (length bytes) 12 ≡ false = le-ltb (length bytes) 12 (omega (arith, size_of)) in
    let good : is_locals_token (little_number 4 (drop 8 bytes)) ≡ true = ap is_locals_token locals ∙ token in
    body_is bytes ∙ passed (length bytes == 0) _ _ some ∙ passed (flags % 4 == 2) _ _ not_tiny ∙ chosen (flags % 4 == 3) _ _ is_fat
    ∙ fat_is flags bytes ∙ passed (has_flag flags 0x8) _ _ sections ∙ passed (nat_lt (length bytes) 12) _ _ long ∙ chosen (is_locals_token (little_number 4 (drop 8 bytes))) _ _ good
    ∙ bind_at (code_of 12 (little_number 4 (drop 4 bytes)) bytes) (λ xs. Ok (made (little_number 2 (drop 2 bytes)) (has_flag flags 0x10) (little_number 4 (drop 8 bytes)) xs)) body.code (Ok body)
    (code_again 12 (little_number 4 (drop 4 bytes)) bytes more body.code (long_code ∙ left) d12 are)
    (ap (λ (x : Body). done x) (made_is (little_number 2 (drop 2 bytes)) (has_flag flags 0x10) (little_number 4 (drop 8 bytes)) body stack (sym init) locals))

pub body_again : (bytes : List ℕ) (body : Body) → Spells body bytes → body_of bytes ≡ Ok body
body_again bytes body s =
    let code : List ℕ = code_spelling body.code ++ s.more in
    let size : ℕ = length (code_spelling body.code) in
    elim s.head [
      | inl tiny ↦
          let whole : bytes ≡ (4 * size + 2) ∷ code = s.whole ∙ ap (λ (xs : List ℕ). xs ++ code) tiny.bytes in
          ap body_of whole ∙ tiny_again size s.more body refl tiny.max_stack tiny.init tiny.locals s.instrs
      | inr fat ↦
          let stack : List ℕ = bytes_of 2 body.max_stack in
          let sizes : List ℕ = bytes_of 4 size in
          let locals : List ℕ = bytes_of 4 body.locals in
          let regrouped : (stack ++ (sizes ++ locals)) ++ code ≡ stack ++ (sizes ++ (locals ++ code)) =
          append_assoc stack (sizes ++ locals) code ∙ ap (λ (xs : List ℕ). stack ++ xs) (append_assoc sizes locals code) in
          let whole : bytes ≡ fat.flags ∷ fat.second ∷ (stack ++ (sizes ++ (locals ++ code))) =
          s.whole ∙ ap (λ (xs : List ℕ). xs ++ code) fat.bytes ∙ ap (λ (xs : List ℕ). fat.flags ∷ fat.second ∷ xs) regrouped in
          ap body_of whole ∙ fat_again fat.flags fat.second size s.more body refl fat.format fat.sections fat.init fat.token fat.max_stack_fits fat.size_fits fat.locals_fits s.instrs
    ]

pub is_found : (bytes : List ℕ) (r : Result Body CodeFault) → IsBytes bytes → Gives (λ x. x) r (body_of bytes) → IfOk r (λ body. Spells body bytes)
is_found bytes (Ok body) fits given = body_takes bytes body fits given
is_found bytes (Err e) fits given = tt
