-- Types and methods out of their spellings, and what a spelling keeps.
use Rattle.std.proofs.Common.{◌≡◌, ℕ, ◌+◌, Bool, true, false, List, [], ◌∷◌, ◌++◌, map, IsTrue, refl, sym, ap, ap₂, ◌∙◌, subst, arith}
use Rattle.std.specs.Prelude.{max}
use Rattle.std.proofs.Math.Nat.{add-max-add_right, max-zero, zero-max}
use Rattle.std.specs.Cmp.Derive.{both_true}
use Rattle.std.proofs.lemmas.Bool.{and_parts}
use Rattle.std.proofs.lemmas.List.{append-nil, map-append}
use Rattle.clr_base.specs.declared.ids.DefId.{DefId}
use Rattle.clr_base.specs.declared.ids.MethId.{MethId}
use Rattle.node_set.specs.Keys as nodes
use Rattle.type_tree.specs.declared.tree.Ty.{Ty}
use Rattle.type_tree.specs.declared.tree.Ty.TheVariants as ty
use Rattle.type_tree.specs.declared.tree.Ty.TheOpen.{Ty-F}
use Rattle.type_tree.specs.declared.tree.Ty.TheViews.{out-Ty}
use Rattle.type_tree.specs.declared.tree.Key.{Key}
use Rattle.type_tree.specs.declared.tree.Key.TheVariants.{Tree, Meth}
use Rattle.type_tree.specs.Measure.{depth, depth_step, depth_of_key, depth_of_all}
use Rattle.type_tree.proofs.Folds.{Known, trees, by_variants, fold-Inst, fold-Array, fold-ByRef, fold-Ptr, fold-Var, fold-MVar, fold-Missing, fold-Odd}
use Rattle.type_tree.proofs.Trees.{out-Inst}
use Rattle.node_keys.specs.Spelling.{put_all, spelled, spelled_type, spelled_step, is_plain, is_plain_type, is_plain_step, are_plain}

-- ---- each form

spelled-Inst : (d : DefId) (ts : List Ty) → spelled_type (ty.Inst d ts) ≡ put_all (nodes.head d) (map spelled_type ts)
spelled-Inst d ts = fold-Inst nodes.Key spelled_step d ts

spelled-Array : (t : Ty) → spelled_type (ty.Array t) ≡ nodes.array (spelled_type t)
spelled-Array t = fold-Array nodes.Key spelled_step t

plain-Inst : (d : DefId) (ts : List Ty) → is_plain_type (ty.Inst d ts) ≡ are_plain ts
plain-Inst d ts = fold-Inst Bool is_plain_step d ts

plain-Array : (t : Ty) → is_plain_type (ty.Array t) ≡ is_plain_type t
plain-Array t = fold-Array Bool is_plain_step t

-- a fact of every type that is made of definitions and arrays alone
record PlainCases (P : Ty → Type 0) : Type 0 where
  pub inst : (d : DefId) (ps : List (Known P)) → P (ty.Inst d (trees P ps))
  pub array : (t : Ty) → P t → P (ty.Array t)

abbrev IfPlain : (Ty → Type 0) → Ty → Type 0
IfPlain P t = is_plain_type t ≡ true → P t

no_other : {A : Type 0} (t : Ty) → is_plain_type t ≡ false → is_plain_type t ≡ true → A
no_other t is plain = let lost : false ≡ true = sym is ∙ plain in cc

module _ (P : Ty → Type 0) (of : PlainCases P) where
  known : (ps : List (Known (IfPlain P))) → are_plain (trees (IfPlain P) ps) ≡ true → (qs : List (Known P)) × (trees P qs ≡ trees (IfPlain P) ps)
  known [] h = ([], refl)
  known (p ∷ ps) h =
      let s = and_parts (is_plain_type p.0) (are_plain (trees (IfPlain P) ps)) h in
      let rest = known ps s.1 in
      ((p.0, p.1 s.0) ∷ rest.0, ap (λ ts. p.0 ∷ ts) rest.1)

  plain_inst : (d : DefId) (ps : List (Known (IfPlain P))) → IfPlain P (ty.Inst d (trees (IfPlain P) ps))
  plain_inst d ps h =
      let qs = known ps (sym (plain-Inst d (trees (IfPlain P) ps)) ∙ h) in
      subst (λ ts. P (ty.Inst d ts)) qs.1 (of.inst d qs.0)

  by_plain : (t : Ty) → is_plain_type t ≡ true → P t
  by_plain = by_variants (IfPlain P) (record {
    inst = plain_inst;
    array = λ t step h. of.array t (step (sym (plain-Array t) ∙ h));
    by_ref = λ t step h. no_other (ty.ByRef t) (fold-ByRef Bool is_plain_step t) h;
    ptr = λ t step h. no_other (ty.Ptr t) (fold-Ptr Bool is_plain_step t) h;
    var = λ n h. no_other (ty.Var n) (fold-Var Bool is_plain_step n) h;
    mvar = λ n h. no_other (ty.MVar n) (fold-MVar Bool is_plain_step n) h;
    missing = λ name value h. no_other (ty.Missing name value) (fold-Missing Bool is_plain_step name value) h;
    odd = λ code h. no_other (ty.Odd code) (fold-Odd Bool is_plain_step code) h;
  })

  all_plain : (ts : List Ty) → are_plain ts ≡ true → (qs : List (Known P)) × (trees P qs ≡ ts)
  all_plain [] h = ([], refl)
  all_plain (t ∷ ts) h =
      let s = and_parts (is_plain_type t) (are_plain ts) h in
      let rest = all_plain ts s.1 in
      ((t, by_plain t s.0) ∷ rest.0, ap (λ us. t ∷ us) rest.1)

-- ---- out of a spelling

abbrev argued_at : Ty-F Ty → Ty → Ty → Ty
argued_at (Ty-F.Inst d ts) t u = ty.Inst d (ts ++ u ∷ [])
argued_at _ t u = t

-- with an argument more
abbrev argued : Key → Ty → Key
argued (Tree t) u = Tree (argued_at (out-Ty t) t u)
argued (Meth k) u = Meth (record { owner = k.owner; method = k.method; args = k.args ++ u ∷ [] })

abbrev type_in : Key → Ty
type_in (Tree t) = t
type_in (Meth k) = k.owner

abbrev unspelled : nodes.Key → Key
unspelled (nodes.head d) = Tree (ty.Inst d [])
unspelled (nodes.put k x) = argued (unspelled k) (type_in (unspelled x))
unspelled (nodes.array e) = Tree (ty.Array (type_in (unspelled e)))
unspelled (nodes.method m o) = Meth (record { owner = type_in (unspelled o); method = m; args = [] })

argued_inst : (d : DefId) (ts : List Ty) (u : Ty) → argued (Tree (ty.Inst d ts)) u ≡ Tree (ty.Inst d (ts ++ u ∷ []))
argued_inst d ts u = ap (λ y. Tree (argued_at y (ty.Inst d ts) u)) (out-Inst d ts)

abbrev Unspelled : Ty → Type 0
Unspelled t = unspelled (spelled_type t) ≡ Tree t

one_more : (us : List Ty) (t : Ty) (ts : List Ty) → ((us ++ t ∷ []) ++ ts) ≡ (us ++ t ∷ ts)
one_more [] t ts = refl
one_more (u ∷ us) t ts = ap (λ rest. u ∷ rest) (one_more us t ts)

abbrev given : (P : Ty → Type 0) → List (Known P) → List nodes.Key
given P ps = map spelled_type (trees P ps)

inst_back : (d : DefId) (us : List Ty) (ps : List (Known Unspelled)) (k : nodes.Key) → unspelled k ≡ Tree (ty.Inst d us)
    → unspelled (put_all k (given Unspelled ps)) ≡ Tree (ty.Inst d (us ++ trees Unspelled ps))
inst_back d us [] k is = is ∙ ap (λ ts. Tree (ty.Inst d ts)) (sym (append-nil us))
inst_back d us (p ∷ ps) k is =
    inst_back d (us ++ p.0 ∷ []) ps (nodes.put k (spelled_type p.0))
    (ap₂ (λ f x. argued f (type_in x)) is p.1 ∙ argued_inst d us p.0)
    ∙ ap (λ ts. Tree (ty.Inst d ts)) (one_more us p.0 (trees Unspelled ps))

abbrev of_method : Ty → MethId → List Ty → Key
of_method owner method args = Meth (record { owner = owner; method = method; args = args })

meth_back : (o : Ty) (m : MethId) (us : List Ty) (ps : List (Known Unspelled)) (k : nodes.Key) → unspelled k ≡ of_method o m us
    → unspelled (put_all k (given Unspelled ps)) ≡ of_method o m (us ++ trees Unspelled ps)
meth_back o m us [] k is = is ∙ ap (of_method o m) (sym (append-nil us))
meth_back o m us (p ∷ ps) k is =
    meth_back o m (us ++ p.0 ∷ []) ps (nodes.put k (spelled_type p.0)) (ap₂ (λ f x. argued f (type_in x)) is p.1)
    ∙ ap (of_method o m) (one_more us p.0 (trees Unspelled ps))

type_back : (t : Ty) → is_plain_type t ≡ true → Unspelled t
type_back = by_plain Unspelled (record {
  inst = λ d ps. ap unspelled (spelled-Inst d (trees Unspelled ps)) ∙ inst_back d [] ps (nodes.head d) refl;
  array = λ t step. ap unspelled (spelled-Array t) ∙ ap (λ k. Tree (ty.Array (type_in k))) step;
})

key_back : (k : Key) → is_plain k ≡ true → unspelled (spelled k) ≡ k
key_back (Tree t) h = type_back t h
key_back (Meth k) h =
    let s = and_parts (is_plain_type k.owner) (are_plain k.args) h in
    let args = all_plain Unspelled (record {
      inst = λ d ps. ap unspelled (spelled-Inst d (trees Unspelled ps)) ∙ inst_back d [] ps (nodes.head d) refl;
      array = λ t step. ap unspelled (spelled-Array t) ∙ ap (λ x. Tree (ty.Array (type_in x))) step;
    }) k.args s.1 in
    let owner : unspelled (nodes.method k.method (spelled_type k.owner)) ≡ of_method k.owner k.method [] =
    ap (λ x. of_method (type_in x) k.method []) (type_back k.owner s.0) in
    ap (λ ts. unspelled (put_all (nodes.method k.method (spelled_type k.owner)) (map spelled_type ts))) (sym args.1)
    ∙ meth_back k.owner k.method [] args.0 (nodes.method k.method (spelled_type k.owner)) owner
    ∙ ap (of_method k.owner k.method) args.1

pub one_key : (k l : Key) → is_plain k ≡ true → is_plain l ≡ true → spelled k ≡ spelled l → k ≡ l
one_key k l plain other same = sym (key_back k plain) ∙ ap unspelled same ∙ key_back l other

-- ---- depth

abbrev Deep : Ty → Type 0
Deep t = nodes.depth (spelled_type t) ≡ depth t

three : (a b c : ℕ) → max (max a b) c ≡ max a (max b c)
three a b c = omega arith

put_deep : (k : nodes.Key) (n : ℕ) (ps : List (Known Deep)) → nodes.depth k ≡ n + 1
    → nodes.depth (put_all k (given Deep ps)) ≡ max n (depth_of_all (trees Deep ps)) + 1
put_deep k n [] is = is ∙ ap (λ m. m + 1) (sym (max-zero n))
put_deep k n (p ∷ ps) is =
    put_deep (nodes.put k (spelled_type p.0)) (max n (depth p.0)) ps (ap₂ (λ a b. max a (b + 1)) is p.1 ∙ add-max-add_right n (depth p.0) 1)
    ∙ ap (λ m. m + 1) (three n (depth p.0) (depth_of_all (trees Deep ps)))

deep_cases : PlainCases Deep
deep_cases = record {
  inst = λ d ps.
      ap nodes.depth (spelled-Inst d (trees Deep ps)) ∙ put_deep (nodes.head d) 0 ps refl
      ∙ ap (λ m. m + 1) (zero-max (depth_of_all (trees Deep ps))) ∙ sym (fold-Inst ℕ depth_step d (trees Deep ps));
  array = λ t step. ap nodes.depth (spelled-Array t) ∙ ap (λ n. n + 1) step ∙ sym (fold-Array ℕ depth_step t);
}

pub as_deep : (k : Key) → is_plain k ≡ true → nodes.depth (spelled k) ≡ depth_of_key k
as_deep (Tree t) h = by_plain Deep deep_cases t h
as_deep (Meth k) h =
    let s = and_parts (is_plain_type k.owner) (are_plain k.args) h in
    let args = all_plain Deep deep_cases k.args s.1 in
    let owner = by_plain Deep deep_cases k.owner s.0 in
    ap (λ ts. nodes.depth (put_all (nodes.method k.method (spelled_type k.owner)) (map spelled_type ts))) (sym args.1)
    ∙ put_deep (nodes.method k.method (spelled_type k.owner)) (depth k.owner) args.0 (ap (λ n. n + 1) owner)
    ∙ ap (λ ts. max (depth k.owner) (depth_of_all ts) + 1) args.1

-- ---- arguments, elements and owners are types

abbrev Well : Ty → Type 0
Well t = nodes.IsWell (spelled_type t) × nodes.IsType (spelled_type t)

put_well : (k : nodes.Key) (ps : List (Known Well)) → nodes.IsWell k → nodes.TakesArguments k → nodes.IsWell (put_all k (given Well ps))
put_well k [] well takes = well
put_well k (p ∷ ps) well takes = put_well (nodes.put k (spelled_type p.0)) ps (well, takes, p.1.0, p.1.1) takes

put_type : (k : nodes.Key) (xs : List nodes.Key) → nodes.IsType k → nodes.IsType (put_all k xs)
put_type k [] is = is
put_type k (x ∷ xs) is = put_type (nodes.put k x) xs is

well_cases : PlainCases Well
well_cases = record {
  inst = λ d ps.
      subst (λ k. nodes.IsWell k × nodes.IsType k) (sym (spelled-Inst d (trees Well ps)))
      (put_well (nodes.head d) ps (tt {0}) (tt {0}), put_type (nodes.head d) (given Well ps) (tt {0}));
  array = λ t step. subst (λ k. nodes.IsWell k × nodes.IsType k) (sym (spelled-Array t)) (step, tt {0});
}

pub is_well : (k : Key) → is_plain k ≡ true → nodes.IsWell (spelled k)
is_well (Tree t) h = (by_plain Well well_cases t h).0
is_well (Meth k) h =
    let s = and_parts (is_plain_type k.owner) (are_plain k.args) h in
    let args = all_plain Well well_cases k.args s.1 in
    subst (λ ts. nodes.IsWell (put_all (nodes.method k.method (spelled_type k.owner)) (map spelled_type ts))) args.1
    (put_well (nodes.method k.method (spelled_type k.owner)) args.0 (by_plain Well well_cases k.owner s.0) (tt {0}))

-- ---- each key of nodes is a spelling

abbrev SpellsType : nodes.Key → Type 0
SpellsType k = (t : Ty) × (is_plain_type t ≡ true) × (spelled_type t ≡ k)

abbrev SpellsHead : nodes.Key → Type 0
SpellsHead k = (d : DefId) × (ts : List Ty) × (are_plain ts ≡ true) × (put_all (nodes.head d) (map spelled_type ts) ≡ k)

abbrev SpellsMethod : nodes.Key → Type 0
SpellsMethod k =
    (m : MethId) × (o : Ty) × (ts : List Ty) × (is_plain_type o ≡ true) × (are_plain ts ≡ true)
    × (put_all (nodes.method m (spelled_type o)) (map spelled_type ts) ≡ k)

-- what a key of nodes is read as: an array, or a definition or a method with its arguments
data Read (k : nodes.Key) : Type 0 where
  an_array : SpellsType k → ¬ (nodes.TakesArguments k) → Read k
  a_head : SpellsHead k → Read k
  a_method : SpellsMethod k → ¬ (nodes.IsType k) → Read k

put_last : (k : nodes.Key) (xs : List nodes.Key) (x : nodes.Key) → put_all k (xs ++ x ∷ []) ≡ nodes.put (put_all k xs) x
put_last k [] x = refl
put_last k (y ∷ ys) x = put_last (nodes.put k y) ys x

last_plain : (ts : List Ty) (t : Ty) → are_plain ts ≡ true → is_plain_type t ≡ true → are_plain (ts ++ t ∷ []) ≡ true
last_plain [] t all one = both_true one refl
last_plain (u ∷ us) t all one = let s = and_parts (is_plain_type u) (are_plain us) all in both_true s.0 (last_plain us t s.1 one)

last_put : (front : nodes.Key) (ts : List Ty) (t : Ty) (k x : nodes.Key) → put_all front (map spelled_type ts) ≡ k → spelled_type t ≡ x
    → put_all front (map spelled_type (ts ++ t ∷ [])) ≡ nodes.put k x
last_put front ts t k x is arg =
    ap (put_all front) (map-append spelled_type ts (t ∷ [])) ∙ put_last front (map spelled_type ts) (spelled_type t) ∙ ap₂ nodes.put is arg

head_type : (k : nodes.Key) → SpellsHead k → SpellsType k
head_type k (d, ts, plain, is) = (ty.Inst d ts, plain-Inst d ts ∙ plain, spelled-Inst d ts ∙ is)

type_of : (k : nodes.Key) → nodes.IsType k → Read k → SpellsType k
type_of k is (an_array t none) = t
type_of k is (a_head h) = head_type k h
type_of k is (a_method m none) = absurd (none is)

with_last : (k x : nodes.Key) → nodes.TakesArguments k → Read k → SpellsType x → Read (nodes.put k x)
with_last k x takes (an_array t none) arg = absurd (none takes)
with_last k x takes (a_head (d, ts, plain, is)) (t, one, arg) = a_head (d, ts ++ t ∷ [], last_plain ts t plain one, last_put (nodes.head d) ts t k x is arg)
with_last k x takes (a_method (m, o, ts, owner, plain, is) none) (t, one, arg) =
    a_method (m, o, ts ++ t ∷ [], owner, last_plain ts t plain one, last_put (nodes.method m (spelled_type o)) ts t k x is arg) none

read : (k : nodes.Key) → nodes.IsWell k → Read k
read (nodes.head d) well = a_head (d, [], refl, refl)
read (nodes.put k x) well = with_last k x well.1 (read k well.0) (type_of x well.3 (read x well.2))
read (nodes.array e) well =
    let t = type_of e well.1 (read e well.0) in an_array (ty.Array t.0, plain-Array t.0 ∙ t.1, spelled-Array t.0 ∙ ap nodes.array t.2) (λ none. none)
read (nodes.method m o) well =
    let t = type_of o well.1 (read o well.0) in a_method (m, t.0, [], t.1, refl, ap (nodes.method m) t.2) (λ none. none)

spells : (k : nodes.Key) → Read k → (key : Key) × IsTrue (is_plain key) × (spelled key ≡ k)
spells k (an_array (t, plain, is) none) = (Tree t, plain, is)
spells k (a_head h) = let t = head_type k h in (Tree t.0, t.1, t.2)
spells k (a_method (m, o, ts, owner, plain, is) none) = (Meth (record { owner = o; method = m; args = ts }), both_true owner plain, is)

pub key_of_each : (k : nodes.Key) → nodes.IsWell k → (key : Key) × IsTrue (is_plain key) × (spelled key ≡ k)
key_of_each k well = spells k (read k well)
