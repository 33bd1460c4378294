-- What reading takes from the front of the code.
use Rattle.std.proofs.Common.{◌≡◌, ℕ, ◌+◌, ◌^◌, ◌<◌, ◌≤◌, Bool, true, false, cond, List, [], ◌++◌, length, take, drop, Result, Ok, Err, refl, sym, ap, subst, ◌∙◌, append_assoc, arith}
use Rattle.std.specs.Prelude.{nat_lt}
use Rattle.std.proofs.lemmas.Bool.{ltb-false, le-ltb}
use Rattle.std.proofs.lemmas.List.{take_at, drop_at, length-append, append-nil}
use Rattle.byteorder.specs.Endian.{little_number}
use Rattle.cil_code.specs.declared.code_fault.CodeFault.{CodeFault}
use Rattle.cil_code.specs.Reading.{◌>>=◌, Window, behind, front, number_at}
use Rattle.cil_code.specs.Spelling.{bytes_of}
use Rattle.cil_code.proofs.Bytes.{IsBytes, IsBytes-rest, number-take, length-bytes_of, number-bytes_of, bytes_of-number, number_fits}
use Rattle.cil_code.proofs.Choices.{passed}

-- ---- steps that don't fail

pub bind_ok : {A B : Type 0} (r : Result A CodeFault) (f : A → Result B CodeFault) (y : B) → (r >>= f) ≡ Ok y → (x : A) × (r ≡ Ok x) × (f x ≡ Ok y)
bind_ok (Ok x) f y e = (x, refl, e)
bind_ok (Err d) f y e = absurd cc

pub bind_at : {A B : Type 0} (r : Result A CodeFault) (f : A → Result B CodeFault) (x : A) (z : Result B CodeFault) → r ≡ Ok x → f x ≡ z → (r >>= f) ≡ z
bind_at r f x z e h = ap (λ s. s >>= f) e ∙ h

pub guard_ok : {A : Type 0} (b : Bool) (d : CodeFault) (r : Result A CodeFault) (y : A) → cond b (Err d) r ≡ Ok y → (b ≡ false) × (r ≡ Ok y)
guard_ok true d r y e = absurd cc
guard_ok false d r y e = (refl, e)

abbrev pub done : {A : Type 0} → A → Result A CodeFault
done x = Ok x

pub ok_is : {A : Type 0} (x y : A) → done x ≡ done y → x ≡ y
ok_is x y e = cc

abbrev pub found : {A : Type 0} → A → Window → Result (A × Window) CodeFault
found x v = Ok (x, v)

pub pair_is : {A : Type 0} (x y : A) (v w : Window) → found x v ≡ found y w → (x ≡ y) × (v ≡ w)
pair_is {A = A} x y v w e =
    let first : A × Window = (x, v) in
    let second : A × Window = (y, w) in
    let pairs : first ≡ second = ok_is first second e in
    (ap (λ (p : A × Window). p.0) pairs, ap (λ (p : A × Window). p.1) pairs)

-- ---- windows

-- what stands in the first window before the second one
pub record Takes (w : Window) (text : List ℕ) (v : Window) : Type 0 where
  pub header : v.header ≡ w.header
  pub place : v.place ≡ w.place + length text
  pub left : w.left ≡ length text + v.left
  pub bytes : w.bytes ≡ text ++ v.bytes

pub takes_nothing : (w : Window) → Takes w [] w
takes_nothing w = record { header = refl; place = omega arith; left = omega arith; bytes = refl }

pub takes_then : (w u v : Window) (a b : List ℕ) → Takes w a u → Takes u b v → Takes w (a ++ b) v
takes_then w u v a b p q = record {
  header = q.header ∙ p.header;
  place = omega (arith, p.place, q.place, length-append a b);
  left = omega (arith, p.left, q.left, length-append a b);
  bytes = p.bytes ∙ ap (λ (xs : List ℕ). a ++ xs) q.bytes ∙ sym (append_assoc a b v.bytes);
}

-- the window in between
abbrev pub between : (w v : Window) (a b : List ℕ) → Window
between w v a b = record { header = w.header; place = w.place + length a; left = length b + v.left; bytes = b ++ v.bytes }

pub takes_first : (w v : Window) (a b : List ℕ) → Takes w (a ++ b) v → Takes w a (between w v a b)
takes_first w v a b t = record {
  header = refl;
  place = refl;
  left = omega (arith, t.left, length-append a b);
  bytes = t.bytes ∙ append_assoc a b v.bytes;
}

pub takes_second : (w v : Window) (a b : List ℕ) → Takes w (a ++ b) v → Takes (between w v a b) b v
takes_second w v a b t = record {
  header = t.header;
  place = omega (arith, t.place, length-append a b);
  left = refl;
  bytes = refl;
}

pub takes_text : (w v : Window) (a b : List ℕ) → a ≡ b → Takes w a v → Takes w b v
takes_text w v a b e t = subst (λ (x : List ℕ). Takes w x v) e t

pub bytes_behind : (w v : Window) (a : List ℕ) → Takes w a v → IsBytes w.bytes → IsBytes v.bytes
bytes_behind w v a t fits = IsBytes-rest a v.bytes (subst IsBytes t.bytes fits)

abbrev window : ℕ → ℕ → ℕ → List ℕ → Window
window h p l bs = record { header = h; place = p; left = l; bytes = bs }

pub window_is : (v w : Window) → v.header ≡ w.header → v.place ≡ w.place → v.left ≡ w.left → v.bytes ≡ w.bytes → v ≡ w
window_is v w a b c d =
    ap (λ (h : ℕ). window h v.place v.left v.bytes) a
    ∙ ap (λ (p : ℕ). window w.header p v.left v.bytes) b
    ∙ ap (λ (l : ℕ). window w.header w.place l v.bytes) c
    ∙ ap (λ (bs : List ℕ). window w.header w.place w.left bs) d

pub stays_there : (w v : Window) → Takes w [] v → w ≡ v
stays_there w v t = window_is w v (sym t.header) (omega (arith, t.place)) (omega (arith, t.left)) t.bytes

-- ---- the next bytes

pub front_takes : (start n : ℕ) (w : Window) (text : List ℕ) (v : Window) → front start n w ≡ Ok (text, v)
    → (n ≤ w.left) × (n ≤ length w.bytes) × (text ≡ take n w.bytes) × (v ≡ behind n w)
front_takes start n w text v e =
    let long = guard_ok (nat_lt w.left n) _ _ (text, v) e in
    let there = guard_ok (nat_lt (length w.bytes) n) _ _ (text, v) long.1 in
    let same = pair_is (take n w.bytes) text (behind n w) v there.1 in
    (ltb-false w.left n long.0, ltb-false (length w.bytes) n there.0, sym same.0, sym same.1)

pub front_again : (start n : ℕ) (w : Window) (text : List ℕ) (v : Window) → length text ≡ n → Takes w text v → front start n w ≡ Ok (text, v)
front_again start n w text v len t =
    let long : nat_lt w.left n ≡ false = le-ltb w.left n (omega (arith, t.left, len)) in
    let size : length w.bytes ≡ length text + length v.bytes = ap (λ (xs : List ℕ). length xs) t.bytes ∙ length-append text v.bytes in
    let there : nat_lt (length w.bytes) n ≡ false = le-ltb (length w.bytes) n (omega (arith, size, len)) in
    let taken : take n w.bytes ≡ text = ap (take n) t.bytes ∙ take_at text v.bytes n len in
    let rest : drop n w.bytes ≡ v.bytes = ap (drop n) t.bytes ∙ drop_at text v.bytes n len in
    let after : behind n w ≡ v = window_is (behind n w) v (sym t.header) (omega (arith, t.place, len)) (omega (arith, t.left, len)) rest in
    passed (nat_lt w.left n) _ _ long ∙ passed (nat_lt (length w.bytes) n) _ _ there
    ∙ ap (λ (xs : List ℕ). Ok (xs, behind n w)) taken ∙ ap (λ (u : Window). Ok (text, u)) after

pub number_takes : (start n : ℕ) (w : Window) (x : ℕ) (v : Window) → IsBytes w.bytes → number_at start n w ≡ Ok (x, v) → Takes w (bytes_of n x) v × (x < 256 ^ n)
number_takes start n w x v fits e =
    let b = bind_ok (front start n w) (λ t. Ok (little_number n t.0, t.1)) (x, v) e in
    let f = front_takes start n w b.0.0 b.0.1 b.1 in
    let same = pair_is (little_number n b.0.0) x b.0.1 v b.2 in
    let after : behind n w ≡ v = sym f.3 ∙ same.1 in
    let number : little_number n w.bytes ≡ x = sym (number-take n n w.bytes (omega arith)) ∙ ap (little_number n) (sym f.2) ∙ same.0 in
    let long = length-bytes_of n x in
    let bytes : w.bytes ≡ bytes_of n x ++ drop n w.bytes = bytes_of-number n w.bytes f.1 fits ∙ ap (λ (m : ℕ). bytes_of n m ++ drop n w.bytes) number in
    let taken : Takes w (bytes_of n x) (behind n w) = record { header = refl; place = omega (arith, long); left = omega (arith, long, f.0); bytes = bytes } in
    let small : little_number n w.bytes < 256 ^ n = number_fits n w.bytes f.1 fits in
    (subst (λ (u : Window). Takes w (bytes_of n x) u) after taken, subst (λ (m : ℕ). m < 256 ^ n) number small)

pub number_again : (start n : ℕ) (w : Window) (x : ℕ) (v : Window) → x < 256 ^ n → Takes w (bytes_of n x) v → number_at start n w ≡ Ok (x, v)
number_again start n w x v small t =
    let number : little_number n (bytes_of n x) ≡ x = ap (little_number n) (sym (append-nil (bytes_of n x))) ∙ number-bytes_of n x [] small in
    bind_at (front start n w) (λ r. Ok (little_number n r.0, r.1)) (bytes_of n x, v) (Ok (x, v))
    (front_again start n w (bytes_of n x) v (length-bytes_of n x) t)
    (ap (λ (m : ℕ). Ok (m, v)) number)
