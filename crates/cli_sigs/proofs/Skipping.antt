-- What stands behind the parts of a type, where only that is asked.
use Rattle.std.proofs.Common.{◌≡◌, ℕ, zero, suc, ◌-◌, List, ◌∷◌, length, Result, Ok, Err, refl, ap, ◌∙◌}
use Rattle.cli_sigs.specs.declared.signature.RowCounts.{RowCounts}
use Rattle.cli_sigs.specs.declared.signature.SigTy.{SigTy}
use Rattle.cli_sigs.specs.declared.fault.SigFault.{SigFault}
use Rattle.cli_sigs.specs.declared.fault.SigFault.TheVariants as fault
use Rattle.cli_sigs.specs.declared.element.Constructor.TheVariants as constructor
use Rattle.cli_sigs.specs.declared.types.Callee.{Callee}
use Rattle.cli_sigs.specs.declared.types.Callee.TheVariants as callee
use Rattle.cli_sigs.specs.Reading.{Answer, Part, ◌>>=◌, behind, measured, repeated}
use Rattle.cli_sigs.specs.Compressed.{number_at, counted_at, type_name_at, argument_count_at, arguments_at}
use Rattle.cli_sigs.specs.Fault.{reached}
use Rattle.cli_sigs.specs.Signatures.{placed, checked, counted, kind_at, local_at, locals_at}
use Rattle.cli_sigs.proofs.ReaderLaws.{ok_is}
use Rattle.cli_sigs.specs.Types.{Reader, target_at, marked_type_at, numbers_at, array_at, is_value_at, generic_inst_at, flags_at, generic_count_at, param_at, method_at, constructed_at}

-- what was read is kept as another value
kept : {X Y : Type 0} (f : X → Y) (read : Part X) → behind (read >>= λ x. Ok (f x.0, x.1)) ≡ behind read
kept f (Ok x) = refl
kept f (Err left) = refl

-- a part that is all that stands behind
given : {Y : Type 0} (y : Y) (read : Answer (List ℕ)) → behind (read >>= λ rest. Ok (y, rest)) ≡ read
given y (Ok rest) = refl
given y (Err left) = refl

-- what is asked of a step, and what of one of which only what stands behind is asked
then : {A B : Type 0} (a : Answer A) (f : A → Part B) (h : A → Answer (List ℕ)) → ((x : A) → behind (f x) ≡ h x) → behind (a >>= f) ≡ (a >>= h)
then (Ok x) f h e = e x
then (Err left) f h e = refl

after : {X B : Type 0} (read : Part X) (f : X × List ℕ → Part B) (h : List ℕ → Answer (List ℕ)) → ((x : X × List ℕ) → behind (f x) ≡ h x.1) → behind (read >>= f) ≡ (behind read >>= h)
after (Ok x) f h e = e x
after (Err left) f h e = refl

module _ (counts : RowCounts) (one : Reader SigTy) (bytes : List ℕ) where
  pub pointer : behind (constructed_at counts one constructor.Ptr bytes) ≡ behind (target_at counts one bytes)
  unfolding constructed_at
  pointer = kept _ (target_at counts one bytes)

  pub by_ref : behind (constructed_at counts one constructor.ByRef bytes) ≡ behind (marked_type_at counts one bytes)
  unfolding constructed_at
  by_ref = kept _ (marked_type_at counts one bytes)

  pub vector : behind (constructed_at counts one constructor.SzArray bytes) ≡ behind (marked_type_at counts one bytes)
  unfolding constructed_at
  vector = kept _ (marked_type_at counts one bytes)

  pub shaped : behind (constructed_at counts one constructor.Array bytes) ≡ behind (array_at one bytes)
  unfolding constructed_at
  shaped = refl

  pub instance : behind (constructed_at counts one constructor.GenericInst bytes) ≡ behind (generic_inst_at counts one bytes)
  unfolding constructed_at
  instance = refl

  pub function : behind (constructed_at counts one constructor.FnPtr bytes) ≡ behind (method_at counts one callee.Pointer bytes)
  unfolding constructed_at
  function = kept _ (method_at counts one callee.Pointer bytes)

pub ruleset constructed = (pointer, by_ref, vector, shaped, instance, function)

-- an array's element and shape
pub array : (one : Reader SigTy) (bytes : List ℕ) → behind (array_at one bytes) ≡ (behind (one bytes) >>= λ rest. number_at rest >>= λ rank. numbers_at rank.1 >>= numbers_at)
unfolding array_at
array one bytes =
    after (one bytes) _ _ (λ element. then (number_at element.1) _ _ (λ rank. then (numbers_at rank.1) _ _ (λ sizes. given _ (numbers_at sizes))))

-- an instantiation
pub generic_inst : (counts : RowCounts) (one : Reader SigTy) (bytes : List ℕ) → behind (generic_inst_at counts one bytes)
    ≡ (is_value_at bytes >>= λ value. type_name_at counts value.1 >>= λ name. argument_count_at name.1 >>= λ count. behind (repeated one count.0 count.1))
unfolding generic_inst_at
generic_inst counts one bytes =
    then (is_value_at bytes) _ _ (λ value. then (type_name_at counts value.1) _ _ (λ name.
    kept _ (arguments_at one name.1) ∙ then (argument_count_at name.1) _ _ (λ count. refl)))

-- a method
pub method : (counts : RowCounts) (one : Reader SigTy) (who : Callee) (bytes : List ℕ) → behind (method_at counts one who bytes)
    ≡ (flags_at who bytes >>= λ flags. generic_count_at flags.0 flags.1 >>= λ generic. number_at generic.1 >>= λ count. behind (target_at counts one count.1) >>= λ rest. behind (repeated (param_at counts one) count.0 rest))
unfolding method_at
method counts one who bytes =
    then (flags_at who bytes) _ _ (λ flags. then (generic_count_at flags.0 flags.1) _ _ (λ generic. then (number_at generic.1) _ _ (λ count.
    after (target_at counts one count.1) _ _ (λ ret. kept _ (repeated (param_at counts one) count.0 ret.1)))))

-- what a check answers is what the reader would
pub reached_is : {X : Type 0} (blob : List ℕ) (part : Part X) → reached blob (behind part) ≡ checked (placed blob part)
reached_is blob (Ok x) = refl
reached_is blob (Err left) = refl

-- as many locals as the number says
module _ {X : Type 0} (one : List ℕ → Part X) where
  one_longer : (n : ℕ) (read : Part (List X)) (x : X) → measured read ≡ (behind read >>= λ rest. Ok (n, rest))
      → measured (read >>= λ others. Ok (x ∷ others.0, others.1)) ≡ (behind (read >>= λ others. Ok (x ∷ others.0, others.1)) >>= λ rest. Ok (suc n, rest))
  one_longer n (Ok (xs, rest)) x e = ap (λ (p : ℕ × List ℕ). Ok (suc p.0, p.1)) (ok_is (length xs, rest) (n, rest) e)
  one_longer n (Err left) x e = refl

  repeats : (n : ℕ) (bytes : List ℕ) → measured (repeated one n bytes) ≡ (behind (repeated one n bytes) >>= λ rest. Ok (n, rest))
  unfolding repeated
  repeats zero bytes = refl
  repeats (suc n) bytes = elim (one bytes) as (λ (first : Part X). measured (first >>= λ x. repeated one n x.1 >>= λ others. Ok (x.0 ∷ others.0, others.1)) ≡ (behind (first >>= λ x. repeated one n x.1 >>= λ others. Ok (x.0 ∷ others.0, others.1)) >>= λ rest. Ok (suc n, rest))) [
    | Ok x ↦ one_longer n (repeated one n x.1) x.0 (repeats n x.1)
    | Err left ↦ refl
  ]

  counted_parts : (bytes : List ℕ) → measured (counted_at one bytes) ≡ (number_at bytes >>= λ count. behind (repeated one count.0 count.1) >>= λ rest. Ok (count.0, rest))
  counted_parts bytes = elim (number_at bytes) as (λ (count : Part ℕ). measured (count >>= λ c. repeated one c.0 c.1) ≡ (count >>= λ c. behind (repeated one c.0 c.1) >>= λ rest. Ok (c.0, rest))) [
    | Ok c ↦ repeats c.0 c.1
    | Err left ↦ refl
  ]

pub locals : (counts : RowCounts) (bytes : List ℕ) → measured (locals_at counts bytes)
    ≡ (kind_at 0x07 bytes >>= λ rest. number_at rest >>= λ count. behind (repeated (local_at counts) count.0 count.1) >>= λ rest. Ok (count.0, rest))
unfolding locals_at
locals counts bytes = elim (kind_at 0x07 bytes) as (λ (kind : Answer (List ℕ)). measured (kind >>= counted_at (local_at counts))
    ≡ (kind >>= λ rest. number_at rest >>= λ count. behind (repeated (local_at counts) count.0 count.1) >>= λ rest. Ok (count.0, rest))) [
      | Ok rest ↦ counted_parts (local_at counts) rest
      | Err left ↦ refl
    ]

-- what the count answers, by how many there are
abbrev pub counted_of : List ℕ → Part ℕ → Result ℕ SigFault
counted_of blob (Ok x) = Ok x.0
counted_of blob (Err left) = Err (fault.Bad (length blob - left))

pub counted_is : {X : Type 0} (blob : List ℕ) (part : Part (List X)) → counted (placed blob part) ≡ counted_of blob (measured part)
counted_is blob (Ok x) = refl
counted_is blob (Err left) = refl
