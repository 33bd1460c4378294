-- A place gives back what was stored there, cut to its width.
use Rattle.std.proofs.Common.{◌≡◌, ℕ, ◌+◌, ◌%◌, ◌^◌, nat_lt, nat_le, Bool, true, false, cond, List, length, Option, Some, None, Result, Ok, Err, refl, sym, ap, ap₂, subst, ◌∙◌, arith}
use Rattle.std.specs.Option.{option_map_or}
use Rattle.std.specs.Prelude.{FitsSigned}
use Rattle.std.specs.Int.{w64}
use Rattle.cil_ops.specs.declared.number.Num.{Num}
use Rattle.cil_ops.specs.declared.number.Num.TheVariants.{I8}
use Rattle.cil_ops.specs.Convert.{convert_of}
use Rattle.cil_ops.specs.Number.{integer_of, unsigned, signed}
use Rattle.obj_heap.specs.declared.address.Address.{Address}
use Rattle.obj_heap.specs.declared.address.ObjRef.{ObjRef}
use Rattle.obj_heap.specs.declared.address.PlaceKind.{PlaceKind}
use Rattle.obj_heap.specs.declared.address.PlaceKind.TheVariants.{Outside}
use Rattle.obj_heap.specs.Objects.{Object}
use Rattle.obj_heap.specs.Calls as heap
use Rattle.obj_heap.proofs.Written.{find-written, length_of-written, kind_at-written, read_own}
use Rattle.cil_state.specs.declared.form.IntKind.{IntKind}
use Rattle.cil_state.specs.declared.form.Scalar.{Scalar}
use Rattle.cil_state.specs.declared.form.Scalar.TheVariants as scalar
use Rattle.cil_state.specs.declared.operand.Operands.{Operands}
use Rattle.cil_state.specs.declared.state.State.{State}
use Rattle.cil_state.specs.declared.trap.Trap.{Trap}
use Rattle.cil_state.specs.declared.trap.Trap.TheVariants as trap
use Rattle.cil_state.specs.declared.value.Value.TheVariants as value
use Rattle.cil_state.specs.Forms.{int_width, width, is_wide, takes, kept, conversion}
use Rattle.cil_state.specs.Meets.{next, guard}
use Rattle.cil_state.specs.State.{pushed, with_heap}
use Rattle.cil_plain.specs.Access.{made, or_null, int_bits, holds, is_there, held, load_at, store_at}
use Rattle.cil_plain.specs.Elements.{are_elements, in_range, element, element_at, load_element, store_element}
use Rattle.cil_plain.specs.Fields.{load_field, store_field}
use Rattle.cil_plain.proofs.Residues.{number_again}

-- a chain that answers went through its first link
next-inverse : {A B : Type 0} (r : Result A Trap) (k : A → Result B Trap) (y : B) → next r k ≡ Ok y → (x : A) × (r ≡ Ok x) × (k x ≡ Ok y)
next-inverse (Ok x) k y e = (x, refl, e)
next-inverse (Err t) k y e = absurd (cc)

guard-inverse : (b : Bool) (t : Trap) (u : Unit {0}) → guard b t ≡ Ok u → b ≡ true
guard-inverse true t u e = refl
guard-inverse false t u e = absurd (cc)

module _ {H : Type 0} where
  there_inside : (s : List (Object H)) (p : Address) (t : Scalar) → is_there s p t ≡ true → heap.is_inside s p (width t) ≡ true
  there_inside s p t = go (heap.object_at s p.object.0)
    where
      nowhere : (t : Scalar) → holds t Outside ≡ true → false ≡ true
      nowhere (scalar.Int k) h = h
      nowhere scalar.Ref h = h

      fits : (t : Scalar) (k : PlaceKind) (a b : ℕ) (c : Bool) → nat_lt b a ≡ c → holds t (cond c Outside k) ≡ true → nat_le a b ≡ true
      fits t k a b true e h = absurd (let q = nowhere t h in cc)
      fits t k a b false e h = grind arith

      go : (o : Option (Object H)) → holds t (option_map_or (λ x. heap.kind_of x p.offset (width t)) o Outside) ≡ true
          → option_map_or (λ x. nat_le (p.offset + width t) (length x.bytes)) o false ≡ true
      go None h = nowhere t h
      go (Some x) h = fits t _ (p.offset + width t) (length x.bytes) (nat_lt (length x.bytes) (p.offset + width t)) refl h

  -- what a store to a place leaves
  record IsStored (s new : List (Object H)) (p : Address) (t : Scalar) (n : ℕ) : Type 0 where
    pub load : load_at new p t ≡ Ok (held new t (n % 256 ^ width t))
    pub find : (r : Option ObjRef) → made new r ≡ made s r
    pub count : (r : ObjRef) → heap.length_of new r ≡ heap.length_of s r

  stored : (s new : List (Object H)) (p : Address) (t : Scalar) (n : ℕ) → store_at s p t n ≡ Ok new → IsStored s new p t n
  stored s new p t n e =
      let a = next-inverse (guard (is_there s p t) trap.InvalidProgram) (λ _. Ok (heap.write_at s p (width t) n)) new e in
      let there = guard-inverse (is_there s p t) trap.InvalidProgram a.0 a.1 in
      let inside = there_inside s p t there in
      let is : heap.write_at s p (width t) n ≡ new = (let q = a.2 in cc) in
      subst (λ z. IsStored s z p t n) is (record {
        load =
            ap (λ b. next (guard b trap.InvalidProgram) (λ _. Ok (held (heap.write_at s p (width t) n) t (heap.read_at (heap.write_at s p (width t) n) p (width t)))))
            (ap (holds t) (kind_at-written s p (width t) n inside p (width t)) ∙ there)
            ∙ ap (λ x. Ok (held (heap.write_at s p (width t) n) t x)) (read_own s p (width t) n inside);
        find = find_same inside;
        count = length_of-written s p (width t) n inside;
      })
    where
      find_same : heap.is_inside s p (width t) ≡ true → (r : Option ObjRef) → made (heap.write_at s p (width t) n) r ≡ made s r
      find_same inside None = refl
      find_same inside (Some r) = ap or_null (find-written s p (width t) n inside r.0)

  pub field_stored : (t : Scalar) (offset n : ℕ) (r : Option ObjRef) (s u : State H) → store_field t offset (record { upper = n; lower = r }) s ≡ Ok u
      → load_field t offset r u ≡ Ok (pushed u (held u.heap t (n % 256 ^ width t)))
  field_stored t offset n r s u e =
      let a = next-inverse (made s.heap r) (λ o. next (store_at s.heap (record { object = o; offset = offset }) t n) (λ z. Ok (with_heap s z))) u e in
      let p : Address = record { object = a.0; offset = offset } in
      let b = next-inverse (store_at s.heap p t n) (λ z. Ok (with_heap s z)) u a.2 in
      let st = stored s.heap b.0 p t n b.1 in
      let is : with_heap s b.0 ≡ u = (let q = b.2 in cc) in
      subst (λ v. load_field t offset r v ≡ Ok (pushed v (held v.heap t (n % 256 ^ width t)))) is (
      ap (λ z. next z (λ o. next (load_at b.0 (record { object = o; offset = offset }) t) (λ v. Ok (pushed (with_heap s b.0) v)))) (st.find r ∙ a.1)
      ∙ ap (λ z. next z (λ v. Ok (pushed (with_heap s b.0) v))) st.load)

  pub element_stored : (e : Option Scalar) (t : Scalar) (fits : Bool) (n : ℕ) (o : Operands Num (Option ObjRef)) (s u : State H)
      → store_element e t fits (record { upper = n; lower = o }) s ≡ Ok u → load_element e t o u ≡ Ok (pushed u (held u.heap t (n % 256 ^ width t)))
  element_stored e t fits n o s u h =
      let a = next-inverse (element e t o s.heap) (λ p. next (guard fits trap.ArrayMismatch) (λ _. next (store_at s.heap p t n) (λ z. Ok (with_heap s z)))) u h in
      let c = next-inverse (guard fits trap.ArrayMismatch) (λ _. next (store_at s.heap a.0 t n) (λ z. Ok (with_heap s z))) u a.2 in
      let b = next-inverse (store_at s.heap a.0 t n) (λ z. Ok (with_heap s z)) u c.2 in
      let st = stored s.heap b.0 a.0 t n b.1 in
      let is : with_heap s b.0 ≡ u = (let q = b.2 in cc) in
      let same : element e t o b.0 ≡ element e t o s.heap =
      ap₂ (λ r (l : ObjRef → ℕ). next r (λ array. next (guard (are_elements e t) trap.InvalidProgram) (λ _.
      next (in_range o.upper (l array)) (λ k. Ok (element_at array t k))))) (st.find o.lower) (λ i array. st.count array i) in
      subst (λ v. load_element e t o v ≡ Ok (pushed v (held v.heap t (n % 256 ^ width t)))) is (
      ap (λ z. next z (λ p. next (load_at b.0 p t) (λ v. Ok (pushed (with_heap s b.0) v)))) (same ∙ a.1)
      ∙ ap (λ z. next z (λ v. Ok (pushed (with_heap s b.0) v))) st.load)

  pub number_stored : (k : IntKind) (given cut : Num) (n : ℕ) (s : List (Object H)) → FitsSigned w64 (integer_of given) → int_bits k given ≡ Ok n → kept k given ≡ Ok cut
      → held s (scalar.Int k) (n % 256 ^ int_width k) ≡ value.Number cut
  number_stored k given cut n s fits written left =
      let a = next-inverse (guard (takes (is_wide k) given) trap.InvalidProgram) (λ _. Ok (unsigned w64 (integer_of given))) n written in
      let b = next-inverse (guard (takes (is_wide k) given) trap.InvalidProgram) (λ _. Ok (convert_of (conversion k) given)) cut left in
      let n_is : unsigned w64 (integer_of given) ≡ n = (let q = a.2 in cc) in
      let cut_is : convert_of (conversion k) given ≡ cut = (let q = b.2 in cc) in
      ap (λ x. value.Number (convert_of (conversion k) (I8 (signed w64 (x % 256 ^ int_width k))))) (sym n_is) ∙ ap value.Number (number_again k given fits ∙ cut_is)
