-- Reading from the front of the bytes.
use Rattle.std.specs.Prelude.{◌≡◌, ℕ, zero, suc, Bool, List, [], ◌∷◌, length, Result, Ok, Err, if◌then◌else◌}
use Rattle.cli_sigs.specs.declared.fault.Stop.{Stop}
use Rattle.cli_sigs.specs.declared.fault.Stop.TheVariants as stop

-- What reading gives: a value, or how many bytes are left from the first that can't be read on.
abbrev pub Answer : Type 0 → Type 0
Answer X = Result X ℕ

-- a part of a signature: its value, and the bytes after it
abbrev pub Part : Type 0 → Type 0
Part X = Answer (X × List ℕ)

infixl 10 ◌>>=◌
abbrev pub ◌>>=◌ : {A B : Type 0} → Answer A → (A → Answer B) → Answer B
(Ok x) >>= f = f x
(Err left) >>= f = Err left

-- nothing can be read here
abbrev pub refused : {X : Type 0} → List ℕ → Answer X
refused bytes = Err (length bytes)

-- a part that passes the test; another is refused at its own first byte
abbrev pub passing : {X : Type 0} → (X → Bool) → List ℕ → Part X → Part X
passing test bytes part = part >>= λ x. if test x.0 then Ok x else refused bytes

-- as many parts as the number says, one behind the other
unfoldable pub repeated : {X : Type 0} → (List ℕ → Part X) → ℕ → List ℕ → Part (List X)
repeated one zero bytes = Ok ([], bytes)
repeated one (suc n) bytes = one bytes >>= λ first. repeated one n first.1 >>= λ others. Ok (first.0 ∷ others.0, others.1)

-- what stands behind a part
abbrev pub behind : {X : Type 0} → Part X → Answer (List ℕ)
behind read = read >>= λ x. Ok x.1

-- how many parts there are, in place of the parts
abbrev pub measured : {X : Type 0} → Part (List X) → Part ℕ
measured read = read >>= λ x. Ok (length x.0, x.1)

-- What a function returned, seen by view, is what reading gives, unless memory ran out.
abbrev pub Fails : {Y : Type 0} → Stop → Answer Y → Type 0
Fails stop.Memory read = Unit {0}
Fails (stop.Left left) read = read ≡ Err left

abbrev pub Gives : {X Y : Type 0} → (X → Y) → Result X Stop → Answer Y → Type 0
Gives view (Ok x) read = read ≡ Ok (view x)
Gives view (Err e) read = Fails e read

-- The same of a function that takes no memory.
abbrev pub Stops : {Y : Type 0} → Stop → Answer Y → Type 0
Stops stop.Memory read = ⊥
Stops (stop.Left left) read = read ≡ Err left

abbrev pub Finds : {X Y : Type 0} → (X → Y) → Result X Stop → Answer Y → Type 0
Finds view (Ok x) read = read ≡ Ok (view x)
Finds view (Err e) read = Stops e read
