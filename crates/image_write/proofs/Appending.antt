-- Parts that are appended, one after the other.
use Rattle.std.proofs.Common.{◌≡◌, ℕ, zero, suc, ◌+◌, ◌-◌, ◌≤◌, List, [], ◌∷◌, ◌++◌, take, refl, sym, ◌∙◌, ap, append_assoc, add-one, arith, Result, Ok, Err, OnOk, is_ok, if◌then◌else◌}
use Rattle.std.proofs.lemmas.List.{replicate_more}
use Rattle.std.specs.Int.{bytes_low_first, byte_at}
use Rattle.image_write.specs.declared.pieces.Field.{Field}
use Rattle.image_write.specs.Pieces.{bytes_of, zeros, structure, joined}

pub zeros_none : zeros 0 ≡ []
unfolding zeros
zeros_none = refl

pub zeros_more : (n : ℕ) → zeros n ++ 0 ∷ [] ≡ zeros (n + 1)
unfolding zeros
zeros_more n = replicate_more n 0

pub joined_none : (f : ℕ → List ℕ) → joined 0 f ≡ []
unfolding joined
joined_none f = refl

pub joined_more : (f : ℕ → List ℕ) (n : ℕ) → joined n f ++ f n ≡ joined (n + 1) f
unfolding joined
joined_more f n = rw add-one refl

-- one more part behind what was appended before
pub one_more : (old part more whole now new : List ℕ) → now ≡ old ++ part → new ≡ now ++ more → part ++ more ≡ whole → new ≡ old ++ whole
one_more old part more whole now new before here e =
    here ∙ ap (λ z. z ++ more) before ∙ append_assoc old part more ∙ ap (λ z. old ++ z) e

-- the lowest bytes of a number
pub take_low : (w n j x : ℕ) → w ≤ n → take w (bytes_low_first j n x) ≡ bytes_low_first j w x
take_low zero n j x h = refl
take_low (suc w) zero j x h = absurd (omega arith)
take_low (suc w) (suc n) j x h = ap (λ z. byte_at j x ∷ z) (take_low w n (suc j) x (omega arith))

-- one field of a structure
pub structure_step : (from end : ℕ) (f : Field) (fs : List Field) (now : List ℕ)
    → now ++ structure from end (f ∷ fs) ≡ ((now ++ zeros (f.at - from)) ++ bytes_of f.width f.value) ++ structure (f.at + f.width) end fs
unfolding structure
structure_step from end f fs now =
    sym (append_assoc now (zeros (f.at - from)) (bytes_of f.width f.value ++ structure (f.at + f.width) end fs))
    ∙ sym (append_assoc (now ++ zeros (f.at - from)) (bytes_of f.width f.value) (structure (f.at + f.width) end fs))

pub structure_end : (from end : ℕ) → structure from end [] ≡ zeros (end - from)
unfolding structure
structure_end from end = refl

-- one part, and then another
pub joins : (old a b now new : List ℕ) → now ≡ old ++ a → new ≡ now ++ b → new ≡ old ++ (a ++ b)
joins old a b now new before here = here ∙ ap (λ z. z ++ b) before ∙ append_assoc old a b

-- what holds of an answer that is Ok
pub ok_gives : {T E : Type 0} {P Q : Type 0} (r : Result T E) → OnOk r P → (P → Q) → OnOk r Q
ok_gives (Ok x) h f = f h
ok_gives (Err e) h f = h

pub ok_pushed : {T E : Type 0} (r : Result T E) (new old more : List ℕ) → new ≡ (if is_ok r then old ++ more else old) → OnOk r (new ≡ old ++ more)
ok_pushed (Ok x) new old more e = e
ok_pushed (Err f) new old more e = tt
