-- Methods match where their names and signatures are equal.
use Rattle.std.proofs.Common.{◌≡◌, ℕ, Bool, true, false, List, [], ◌∷◌, nat_eq, refl, ap₂, subst, eqb-true}
use Rattle.std.proofs.lemmas.Bool.{and_parts, eq-eqb}
use Rattle.type_tree.specs.declared.tree.Ty.{Ty}
use Rattle.type_tree.specs.contracts.tree.Ty as row-of-ty
use Rattle.type_tree.specs.SameLaws.{same_is, is_same}
use Rattle.method_slots.specs.Opens.{Open}
use Rattle.method_slots.specs.Slots.{same_tree, same_trees, same_bool, matches}

pub eq-refl : (n : ℕ) → nat_eq n n ≡ true
eq-refl n = eq-eqb n n refl

bools : (a b : Bool) → same_bool a b ≡ true → a ≡ b
bools true true h = refl
bools true false h = absurd (cc)
bools false true h = absurd (cc)
bools false false h = refl

bool-same : (a : Bool) → same_bool a a ≡ true
bool-same true = refl
bool-same false = refl

trees : (ts us : List Ty) → same_trees ts us ≡ true → ts ≡ us
trees [] [] h = refl
trees [] (u ∷ us) h = absurd (cc)
trees (t ∷ ts) [] h = absurd (cc)
trees (t ∷ ts) (u ∷ us) h = let p = and_parts _ _ h in ap₂ ◌∷◌ (same_is row-of-ty.the_row.coded t u p.0) (trees ts us p.1)

tree-same : (t : Ty) → same_tree t t ≡ true
tree-same t = is_same row-of-ty.the_row.coded t t refl

trees-same : (ts : List Ty) → same_trees ts ts ≡ true
trees-same [] = refl
trees-same (t ∷ ts) = rw (tree-same t) (trees-same ts)

pub match_is : (a b : Open) → matches a b ≡ true → a ≡ b
match_is a b h =
    let p = and_parts _ _ h in
    let q = and_parts _ _ p.1 in
    let r = and_parts _ _ q.1 in
    let s = and_parts _ _ r.1 in
    let t = and_parts _ _ s.1 in
    let name = eqb-true a.name.0 b.name.0 p.0 in
    let this = bools a.has_this b.has_this q.0 in
    let vararg = bools a.vararg b.vararg r.0 in
    let formals = eqb-true a.formals b.formals s.0 in
    let ret = same_is row-of-ty.the_row.coded a.ret b.ret t.0 in
    let params = trees a.params b.params t.1 in
    λ i. record { name = record { 0 = name i }; has_this = this i; vararg = vararg i; formals = formals i; ret = ret i; params = params i }

match_self : (a : Open) → matches a a ≡ true
match_self a = rw (eq-refl a.name.0, bool-same a.has_this, bool-same a.vararg, eq-refl a.formals, tree-same a.ret) (trees-same a.params)

pub is_match : (a b : Open) → a ≡ b → matches a b ≡ true
is_match a b e = subst (λ o. matches a o ≡ true) e (match_self a)
