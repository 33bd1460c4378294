-- What is read from the front is what the grammar says.
use Rattle.std.proofs.Common.{◌≡◌, ◌≢◌, ℕ, zero, suc, ◌≤◌, max, ◌==◌, eqb-true, Bool, true, false, not, ◌&&◌, ◌||◌, cond, IsTrue, List, [], ◌∷◌, ◌++◌, codes, length, Option, Some, None, refl, ap, ap₂, ◌∙◌, sym, subst, append_assoc, arith}
use Rattle.std.proofs.lemmas.Bool.{and_parts}
use Rattle.std.proofs.lemmas.List.{append-nil}
use Rattle.std.specs.List.{list_all}
use Rattle.std.specs.Bool.{then_some}
use Rattle.std.specs.Option.{IfSome, IfNone}
use Rattle.type_tree.specs.declared.tree.Ty.{Ty}
use Rattle.type_tree.specs.declared.tree.Ty.TheVariants as ty
use Rattle.type_tree.specs.World.{Facts}
use Rattle.type_tree.specs.Measure.{depth, depth_of_all}
use Rattle.type_tree.specs.ReadTexts.{is_mark, is_plain, is_name, Names, NamesArguments, NamesMore, Reads}
use Rattle.type_tree.specs.ReadTexts as texts
use Rattle.type_tree.specs.Reading.{IsSplit, IsDefinition, begins_with, is_past_name, list_at, array_at, arrays, in_arrays, AreArrays, is_end, BeginsList, BeginsArguments, BeginsTree, Begins}
use Rattle.type_tree.specs.Reading as reading
use Rattle.type_tree.proofs.ReadingLemmas.{begins_one, shallow}
use Rattle.type_tree.proofs.TreeReading.{arrays-more, deep}

name_is : (name : List ℕ) → IsTrue (list_all is_plain name) → name ≢ [] → IsTrue (is_name name)
name_is [] plain some = absurd (some refl)
name_is (b ∷ name) plain some = plain

list_at-some : (s inner : List ℕ) → list_at s ≡ Some inner → s ≡ 91 ∷ inner
list_at-some [] inner e = absurd (cc)
list_at-some (b ∷ rest) inner e = go (b == 91) (not (begins_with 93 rest)) refl e
  where
    go : (x y : Bool) → (b == 91) ≡ x → cond (x && y) (Some rest) None ≡ Some inner → b ∷ rest ≡ 91 ∷ inner
    go true true p f = let same : rest ≡ inner = cc in ap₂ ◌∷◌ (eqb-true b 91 p) same
    go true false p f = absurd (cc)
    go false y p f = absurd (cc)

-- a list, by its first tree and what stands behind that
record ListFront (w : Facts) (s : List ℕ) (ts : List Ty) (r : List ℕ) : Type 0 where
  text : List ℕ
  others : List ℕ
  head : Ty
  tail : List Ty
  names : Names w text head
  more : NamesMore w others tail
  trees : ts ≡ head ∷ tail
  whole : s ≡ text ++ (others ++ (93 ∷ r))

module _ (w : Facts) where
  -- with arrays round it
  names_arrays : (k : ℕ) (text : List ℕ) (t : Ty) → Names w text t → Names w (text ++ arrays k) (in_arrays k t)
  names_arrays zero text t h = subst (λ s. Names w s t) (sym (append-nil text)) h
  names_arrays (suc k) text t h =
      let longer : (text ++ arrays k) ++ codes "[]" ≡ text ++ arrays (suc k) = append_assoc text (arrays k) (codes "[]") ∙ ap (λ s. text ++ s) (arrays-more k [] ∙ append-nil (arrays (suc k))) in
      subst (λ s. Names w s (in_arrays (suc k) t)) longer (texts.array (text ++ arrays k) (in_arrays k t) (names_arrays k text t h))

  -- what One tells of a text, the grammar says of its front
  abbrev pub IsFront : (List ℕ → Ty → List ℕ → Type 0) → Type 0
  IsFront One = (s : List ℕ) (t : Ty) (r : List ℕ) → One s t r → (text : List ℕ) × Names w text t × (s ≡ text ++ r)

  module _ (One : List ℕ → Ty → List ℕ → Type 0) (front : IsFront One) where
    list_front : {s : List ℕ} {ts : List Ty} {r : List ℕ} → BeginsList One s ts r → ListFront w s ts r
    list_front (reading.last s t r h) =
        let f = front s t (93 ∷ r) h in
        record { text = f.0; others = []; head = t; tail = []; names = f.1; more = texts.no_more; trees = refl; whole = f.2 }
    list_front (reading.next s t others ts r h hs) =
        let f = front s t (44 ∷ others) h in
        let g = list_front hs in
        record {
          text = f.0;
          others = codes "," ++ (g.text ++ g.others);
          head = t;
          tail = g.head ∷ g.tail;
          names = f.1;
          more = texts.more g.text g.others g.head g.tail g.names g.more;
          trees = ap (λ us. t ∷ us) g.trees;
          whole = f.2 ∙ ap (λ o. f.0 ++ (44 ∷ o)) (g.whole ∙ sym (append_assoc g.text g.others (93 ∷ r)));
        }

    arguments_front : {s : List ℕ} {ts : List Ty} {r : List ℕ} → BeginsArguments One s ts r → (args : List ℕ) × NamesArguments w args ts × (s ≡ args ++ r)
    arguments_front (reading.none s e) = ([], texts.none, refl)
    arguments_front (reading.some s inner ts r e h) =
        let g = list_front h in
        let args = codes "[" ++ (g.text ++ (g.others ++ codes "]")) in
        let named : NamesArguments w (codes "[" ++ (g.text ++ (g.others ++ codes "]"))) ts = subst (λ us. NamesArguments w (codes "[" ++ (g.text ++ (g.others ++ codes "]"))) us) (sym g.trees) (texts.some g.text g.others g.head g.tail g.names g.more) in
        let closed : g.text ++ (g.others ++ (93 ∷ r)) ≡ (g.text ++ (g.others ++ codes "]")) ++ r =
        ap (λ o. g.text ++ o) (sym (append_assoc g.others (codes "]") r)) ∙ sym (append_assoc g.text (g.others ++ codes "]") r) in
        (args, named, list_at-some s inner e ∙ ap (λ i. 91 ∷ i) (g.whole ∙ closed))

    tree_front : {s : List ℕ} {t : Ty} {r : List ℕ} → BeginsTree w One s t r → (text : List ℕ) × Names w text t × (s ≡ text ++ r)
    tree_front {s = s} {t = t} {r = r} h =
        let a = arguments_front h.arguments in
        let plain : Names w (h.name ++ a.0) (ty.Inst h.def h.args) = texts.definition h.name a.0 h.def h.args (name_is h.name h.split.plain h.definition.some) h.definition.named a.1 in
        let named : Names w ((h.name ++ a.0) ++ arrays h.count) t = subst (λ u. Names w ((h.name ++ a.0) ++ arrays h.count) u) (sym h.tree) (names_arrays h.count (h.name ++ a.0) (ty.Inst h.def h.args) plain) in
        let whole : s ≡ ((h.name ++ a.0) ++ arrays h.count) ++ r =
        h.split.whole ∙ ap (λ p. h.name ++ p) (a.2 ∙ ap (λ p. a.0 ++ p) h.suffix.whole)
        ∙ sym (append_assoc h.name a.0 (arrays h.count ++ r)) ∙ sym (append_assoc (h.name ++ a.0) (arrays h.count) r) in
        ((h.name ++ a.0) ++ arrays h.count, named, whole)

  pub begins_front : (n : ℕ) → IsFront (Begins w n)
  unfolding Begins
  begins_front zero s t r h = absurd h
  begins_front (suc n) s t r h = tree_front (Begins w n) (begins_front n) h.0

-- and what the grammar says is read

in_arrays-Array : (k : ℕ) (t : Ty) → in_arrays k (ty.Array t) ≡ ty.Array (in_arrays k t)
in_arrays-Array zero t = refl
in_arrays-Array (suc k) t = ap ty.Array (in_arrays-Array k t)

end_opens_no_list : (r : List ℕ) → IsTrue (is_end r) → list_at r ≡ None
end_opens_no_list [] end = refl
end_opens_no_list (b ∷ r) end = go (b == 91) refl
  where
    go : (x : Bool) → (b == 91) ≡ x → cond (x && not (begins_with 93 r)) (Some r) None ≡ None
    go true p =
        let is : b ≡ 91 = eqb-true b 91 p in
        let off : false ≡ true = subst (λ c. IsTrue (is_end (c ∷ r))) is end in
        absurd (cc)
    go false p = refl

end_is_past : (r : List ℕ) → IsTrue (is_end r) → IsTrue (is_past_name r)
end_is_past [] end = refl
end_is_past (b ∷ r) end = go (b == 91) (b == 93) (b == 44) end
  where
    go : (x y z : Bool) → IsTrue (y || z) → IsTrue (x || y || z)
    go true y z e = refl
    go false y z e = e

end_opens_no_array : (r : List ℕ) → IsTrue (is_end r) → array_at r ≡ None
end_opens_no_array [] end = refl
end_opens_no_array (b ∷ []) end = refl
end_opens_no_array (b ∷ c ∷ r) end = go (b == 91) refl
  where
    go : (x : Bool) → (b == 91) ≡ x → cond (x && (c == 93)) (Some r) None ≡ None
    go true p =
        let is : b ≡ 91 = eqb-true b 91 p in
        let off : false ≡ true = subst (λ c. IsTrue (is_end (c ∷ []))) is end in
        absurd (cc)
    go false p = refl

arrays_open_no_list : (k : ℕ) (r : List ℕ) → IsTrue (is_end r) → list_at (arrays k ++ r) ≡ None
arrays_open_no_list zero r end = end_opens_no_list r end
arrays_open_no_list (suc k) r end = refl

arrays_are_past : (k : ℕ) (r : List ℕ) → IsTrue (is_end r) → IsTrue (is_past_name (arrays k ++ r))
arrays_are_past zero r end = end_is_past r end
arrays_are_past (suc k) r end = refl

parts_of_name : (name : List ℕ) → IsTrue (is_name name) → IsTrue (list_all is_plain name) × (name ≢ [])
parts_of_name [] h = absurd (cc)
parts_of_name (b ∷ name) h = (h, λ e. absurd (cc))

module _ (w : Facts) where
  -- a text that names a tree doesn't begin with a closing bracket
  starts_plain : {text : List ℕ} {t : Ty} → Names w text t → (rest : List ℕ) → begins_with 93 (text ++ rest) ≡ false
  starts_plain (texts.definition [] args d ts is named a) rest = absurd (cc)
  starts_plain (texts.definition (b ∷ name) args d ts is named a) rest = go (b == 93) refl
    where
      go : (x : Bool) → (b == 93) ≡ x → x ≡ false
      go true p =
          let same : b ≡ 93 = eqb-true b 93 p in
          let off : false ≡ true = subst (λ c. IsTrue (is_plain c)) same (and_parts (is_plain b) (list_all is_plain name) is).0 in
          absurd (cc)
      go false p = refl
  starts_plain (texts.array text t h) rest = ap (begins_with 93) (append_assoc text (codes "[]") rest) ∙ starts_plain h (codes "[]" ++ rest)

  arguments_are_past : {args : List ℕ} {ts : List Ty} → NamesArguments w args ts → (r : List ℕ) → IsTrue (is_past_name r) → IsTrue (is_past_name (args ++ r))
  arguments_are_past texts.none r h = h
  arguments_are_past (texts.some text others t ts n m) r h = refl

  mutual
    unfolding Begins

    pub names_begin : {text : List ℕ} {t : Ty} → Names w text t → (n k : ℕ) (r : List ℕ) → depth (in_arrays k t) ≤ n → IsTrue (is_end r) → Begins w n (text ++ (arrays k ++ r)) (in_arrays k t) r
    names_begin (texts.definition name args d ts is named a) zero k r low end = absurd (omega (arith, low, deep k d ts))
    names_begin (texts.definition name args d ts is named a) (suc n) k r low end =
        let parts = parts_of_name name is in
        let all_low : depth_of_all ts ≤ n = omega (arith, low, deep k d ts) in (
          record {
            name = name;
            past_name = args ++ (arrays k ++ r);
            split = record { whole = append_assoc name args (arrays k ++ r); plain = parts.0; past = arguments_are_past a (arrays k ++ r) (arrays_are_past k r end) };
            def = d;
            definition = record { some = parts.1; named = named };
            args = ts;
            past_args = arrays k ++ r;
            arguments = arguments_begin a n (arrays k ++ r) all_low (arrays_open_no_list k r end);
            count = k;
            suffix = record { whole = refl; no_more = end_opens_no_array r end };
            end = end;
            tree = refl;
          },
          low,
        )
    names_begin (texts.array text t h) n k r low end =
        let inner : Begins w n (text ++ (arrays (suc k) ++ r)) (in_arrays (suc k) t) r = names_begin h n (suc k) r (subst (λ u. depth u ≤ n) (in_arrays-Array k t) low) end in
        let whole : text ++ (arrays (suc k) ++ r) ≡ (text ++ codes "[]") ++ (arrays k ++ r) = sym (append_assoc text (codes "[]") (arrays k ++ r)) in
        subst (λ u. Begins w n ((text ++ codes "[]") ++ (arrays k ++ r)) u r) (sym (in_arrays-Array k t)) (subst (λ s. Begins w n s (in_arrays (suc k) t) r) whole inner)

    pub arguments_begin : {args : List ℕ} {ts : List Ty} → NamesArguments w args ts → (n : ℕ) (r : List ℕ) → depth_of_all ts ≤ n → list_at r ≡ None → BeginsArguments (Begins w n) (args ++ r) ts r
    arguments_begin texts.none n r low no_list = reading.none r no_list
    arguments_begin (texts.some text others t ts h hs) n r low no_list =
        let inner : List ℕ = text ++ (others ++ (93 ∷ r)) in
        let opened : list_at (91 ∷ (text ++ (others ++ (93 ∷ r)))) ≡ Some (text ++ (others ++ (93 ∷ r))) = ap (λ x. cond (not x) (Some (text ++ (others ++ (93 ∷ r)))) None) (starts_plain h (others ++ (93 ∷ r))) in
        let closed : (text ++ (others ++ codes "]")) ++ r ≡ text ++ (others ++ (93 ∷ r)) = append_assoc text (others ++ codes "]") r ∙ ap (λ o. text ++ o) (append_assoc others (codes "]") r) in
        subst (λ s. BeginsArguments (Begins w n) (91 ∷ s) (t ∷ ts) r) (sym closed)
        (reading.some (91 ∷ inner) inner (t ∷ ts) r opened (more_begin hs n text t (omega (arith, low)) (λ q end. names_begin h n 0 q (omega (arith, low)) end) r))

    pub more_begin : {others : List ℕ} {us : List Ty} → NamesMore w others us → (n : ℕ) (text : List ℕ) (t : Ty) → depth_of_all us ≤ n
        → ((q : List ℕ) → IsTrue (is_end q) → Begins w n (text ++ q) t q) → (r : List ℕ) → BeginsList (Begins w n) (text ++ (others ++ (93 ∷ r))) (t ∷ us) r
    more_begin texts.no_more n text t low one r = reading.last (text ++ (93 ∷ r)) t r (one (93 ∷ r) refl)
    more_begin (texts.more text2 others2 t2 ts h hs) n text t low one r =
        let rest : List ℕ = text2 ++ (others2 ++ (93 ∷ r)) in
        let whole : (text2 ++ others2) ++ (93 ∷ r) ≡ text2 ++ (others2 ++ (93 ∷ r)) = append_assoc text2 others2 (93 ∷ r) in
        subst (λ s. BeginsList (Begins w n) (text ++ (44 ∷ s)) (t ∷ t2 ∷ ts) r) (sym whole)
        (reading.next (text ++ (44 ∷ rest)) t rest (t2 ∷ ts) r (one (44 ∷ rest) refl) (more_begin hs n text2 t2 (omega (arith, low)) (λ q end. names_begin h n 0 q (omega (arith, low)) end) r))

  pub reads_begins : (s : List ℕ) (t : Ty) → Reads w s t → Begins w 64 s t []
  reads_begins s t h = subst (λ p. Begins w 64 p t []) (append-nil s) (names_begin h.names 64 0 [] h.shallow refl)

  pub begins_reads : (s : List ℕ) (t : Ty) → Begins w 64 s t [] → Reads w s t
  begins_reads s t h =
      let f = begins_front w 64 s t [] h in
      record { names = subst (λ p. Names w p t) (sym (f.2 ∙ append-nil f.0)) f.1; shallow = shallow w 64 s t [] h }

  pub names_one : (s : List ℕ) (t u : Ty) → Names w s t → Names w s u → t ≡ u
  names_one s t u h k =
      let n : ℕ = max (depth t) (depth u) in
      (begins_one w n (s ++ []) t u [] [] (names_begin h n 0 [] (omega arith) refl) (names_begin k n 0 [] (omega arith) refl)).0

  -- what is answered where a tree and what stands behind it were read
  pub answered : (s : List ℕ) (t : Ty) (r : List ℕ) → Begins w 64 s t r → (o : Option Ty) → o ≡ then_some (length r == 0) t → IfSome o (Reads w s) × IfNone o ((u : Ty) → ¬ (Reads w s u))
  answered s t [] h None e = absurd (cc)
  answered s t [] h (Some u) e =
      let same : t ≡ u = cc in
      (begins_reads s u (subst (λ x. Begins w 64 s x []) same h), tt)
  answered s t (b ∷ r) h None e = (tt, λ u k. absurd (nothing_behind (begins_one w 64 s u t [] (b ∷ r) (reads_begins s u k) h).1))
    where
      nothing_behind : [] ≡ b ∷ r → ⊥
      nothing_behind p = cc
  answered s t (b ∷ r) h (Some u) e = absurd (go (length (b ∷ r) == 0) refl e)
    where
      go : (x : Bool) → (length (b ∷ r) == 0) ≡ x → Some u ≡ then_some x t → ⊥
      go true p f = let none_there = eqb-true (length (b ∷ r)) 0 p in omega (arith, none_there)
      go false p f = cc

  pub nothing_read : (s : List ℕ) → ((t : Ty) (r : List ℕ) → ¬ (Begins w 64 s t r)) → (t : Ty) → ¬ (Reads w s t)
  nothing_read s never t h = never t [] (reads_begins s t h)
