-- Public virtual methods by the numbers of their names and signatures.
use Rattle.std.proofs.Common.{◌≡◌, ℕ, nat_eq, Bool, true, false, cond, List, [], ◌∷◌, ◌++◌, map, Option, None, Some, refl, ap, ap₂, ◌∙◌, sym, subst, append-nil, append_assoc, length, arith, Result, Ok, Err, OnOk}
use Rattle.std.specs.HashMap.{get}
use Rattle.std.specs.Option.{option_map, option_or}
use Rattle.type_tree.specs.declared.definition.Method.{Method}
use Rattle.type_tree.specs.declared.tree.Ty.{Ty}
use Rattle.type_pool.specs.Trees.{EachOnce, Grows}
use Rattle.method_slots.specs.declared.opens.OpenMethod.{OpenMethod}
use Rattle.method_slots.specs.Keyed.{AreNamed, IsNamed}
use Rattle.method_slots.specs.Opens.{Open}
use Rattle.method_slots.specs.OpenSets.{OpensOnce, OpensGrow}
use Rattle.method_slots.specs.Slots.{matches}
use Rattle.method_slots.proofs.KeyedLemmas.{same_test}
use Rattle.method_slots.proofs.VirtualLemmas.{all_named-grown}
use Rattle.interface_maps.specs.Choices.{Public, first_of, listed, public_of, own_publics, may_answer}
use Rattle.interface_maps.specs.Publics.{Numbers, AddsFirst, first_number, ArePublics, FindsPublic, GainPublics}

abbrev signatures : List Public → List Open
signatures ps = map (λ (p : Public). p.signature) ps

abbrev number_of : Option Public → Option ℕ
number_of o = option_map (λ (p : Public). p.number) o

number-cond : (b : Bool) (p : Public) (o : Option Public) → number_of (cond b (Some p) o) ≡ cond b (Some p.number) (number_of o)
number-cond true p o = refl
number-cond false p o = refl

module _ (ts : List Ty) (once : EachOnce ts) (os : List OpenMethod) (opens_once : OpensOnce os) where
  first_found : (k : ℕ) (o : Open) → IsNamed ts os k o → (keys : List ℕ) (ps : List Public) → AreNamed ts os keys (signatures ps)
      → first_number k keys ps ≡ number_of (first_of (λ (p : Public). matches p.signature o) ps)
  first_found k o named [] [] h = refl
  first_found k o named [] (p ∷ ps) h = absurd h
  first_found k o named (key ∷ keys) [] h = absurd h
  first_found k o named (key ∷ keys) (p ∷ ps) h =
      ap₂ (λ b n. cond b (Some p.number) n) (same_test ts once os opens_once key k p.signature o h.0 named) (first_found k o named keys ps h.1)
      ∙ sym (number-cond (matches p.signature o) p (first_of (λ (p : Public). matches p.signature o) ps))

  pub finds : (numbers : Numbers) (k : ℕ) (found : Option ℕ) → found ≡ get nat_eq numbers k → FindsPublic ts os numbers k found
  finds numbers k found is ps o are named = is ∙ are.firsts k ∙ first_found k o named are.keys ps are.named

-- the numbers of more names and signatures
named-append : (ts : List Ty) (os : List OpenMethod) (keys : List ℕ) (ss : List Open) (k : ℕ) (s : Open) → AreNamed ts os keys ss → IsNamed ts os k s
    → AreNamed ts os (keys ++ k ∷ []) (ss ++ s ∷ [])
named-append ts os [] [] k s h n = (n, tt)
named-append ts os [] (x ∷ ss) k s h n = absurd h
named-append ts os (key ∷ keys) [] k s h n = absurd h
named-append ts os (key ∷ keys) (x ∷ ss) k s h n = (h.0, named-append ts os keys ss k s h.1 n)

signatures-append : (ps : List Public) (p : Public) → signatures (ps ++ p ∷ []) ≡ signatures ps ++ p.signature ∷ []
signatures-append [] p = refl
signatures-append (q ∷ ps) p = ap (λ l. q.signature ∷ l) (signatures-append ps p)

one_before : (t : Bool) (x : ℕ) (a b c : Option ℕ) → a ≡ option_or b c → cond t (Some x) a ≡ option_or (cond t (Some x) b) c
one_before true x a b c e = refl
one_before false x a b c e = e

first-append : (ts : List Ty) (os : List OpenMethod) (keys : List ℕ) (ps : List Public) (k : ℕ) (p : Public) (q : ℕ) → AreNamed ts os keys (signatures ps)
    → first_number q (keys ++ k ∷ []) (ps ++ p ∷ []) ≡ option_or (first_number q keys ps) (cond (nat_eq k q) (Some p.number) None)
first-append ts os [] [] k p q h = refl
first-append ts os [] (x ∷ ps) k p q h = absurd h
first-append ts os (key ∷ keys) [] k p q h = absurd h
first-append ts os (key ∷ keys) (x ∷ ps) k p q h =
    one_before (nat_eq key q) x.number _ (first_number q keys ps) (cond (nat_eq k q) (Some p.number) None) (first-append ts os keys ps k p q h.1)

module _ (ts us : List Ty) (os xs : List OpenMethod) (g : Grows ts us) (h : OpensGrow os xs) where
  pub publics-same : (numbers : Numbers) (ps : List Public) → ArePublics ts os numbers ps → ArePublics us xs numbers (ps ++ [])
  publics-same numbers ps are = subst (ArePublics us xs numbers) (sym (append-nil ps))
      (record { keys = are.keys; named = all_named-grown ts us os xs g h are.keys (signatures ps) are.named; firsts = are.firsts })

  pub publics-one : (old new : Numbers) (ps : List Public) (k : ℕ) (p : Public) → IsNamed us xs k p.signature → AddsFirst old new k p.number
      → ArePublics ts os old ps → ArePublics us xs new (ps ++ p ∷ [])
  publics-one old new ps k p named adds are =
      let grown = all_named-grown ts us os xs g h are.keys (signatures ps) are.named in
      record {
        keys = are.keys ++ k ∷ [];
        named = subst (AreNamed us xs (are.keys ++ k ∷ [])) (sym (signatures-append ps p)) (named-append us xs are.keys (signatures ps) k p.signature grown named);
        firsts = λ q. adds q ∙ ap (λ o. option_or o (cond (nat_eq k q) (Some p.number) None)) (are.firsts q) ∙ sym (first-append us xs are.keys ps k p q grown);
      }

pub ok_then : {T E P Q : Type 0} (r : Result T E) → (P → Q) → OnOk r P → OnOk r Q
ok_then (Ok x) f p = f p
ok_then (Err e) f p = tt

-- a method without a number is passed over
pub unlisted : (types : List Ty) (m : Method) → listed (public_of types m None) [] ≡ []
unlisted types m = by (may_answer m)
  where
    by : (b : Bool) → listed {A = Public} (cond b None None) [] ≡ []
    by true = refl
    by false = refl

listed-append : (o : Option Public) (ps more : List Public) → listed o (ps ++ more) ≡ listed o ps ++ more
listed-append None ps more = refl
listed-append (Some p) ps more = refl

-- one more method
pub own-append : (types : List Ty) (ms : List Method) (ns : List (Option ℕ)) (m : Method) (n : Option ℕ) → length ms ≡ length ns
    → own_publics types (ms ++ m ∷ []) (ns ++ n ∷ []) ≡ own_publics types ms ns ++ listed (public_of types m n) []
own-append types [] [] m n e = refl
own-append types [] (x ∷ ns) m n e = absurd (omega (arith, e))
own-append types (x ∷ ms) [] m n e = absurd (omega (arith, e))
own-append types (x ∷ ms) (y ∷ ns) m n e =
    let shorter : length ms ≡ length ns = omega (arith, e) in
    ap (listed (public_of types x y)) (own-append types ms ns m n shorter) ∙ listed-append (public_of types x y) (own_publics types ms ns) (listed (public_of types m n) [])

-- more after what was gained
pub gains-more : (ts us vs : List Ty) (os xs ys : List OpenMethod) (a b c : Numbers) (done more all : List Public) → GainPublics ts os a us xs b done → GainPublics us xs b vs ys c more
    → all ≡ done ++ more → GainPublics ts os a vs ys c all
gains-more ts us vs os xs ys a b c done more all f g e ps are =
    subst (ArePublics vs ys c) (append_assoc ps done more ∙ ap (λ l. ps ++ l) (sym e)) (g (ps ++ done) (f ps are))
