-- What a token stands for is in its world.
use Rattle.std.proofs.Common.{◌≡◌, ℕ, ◌+◌, ◌*◌, ◌-◌, ◌≤◌, ◌<◌, Bool, true, false, ◌&&◌, ◌==◌, nat_lt, nat_le, List, [], ◌∷◌, zero, suc, length, Option, Some, None, slice_get, unwrap_or, IfSome, IsTrue, refl, if◌then◌else◌, arith}
use Rattle.std.specs.List.{list_all}
use Rattle.std.proofs.lemmas.Bool.{and_parts, leb-true}
use borrow.Author.Tests.{ltb-true}
use Rattle.type_tree.specs.declared.parts.Locals.{Locals}
use Rattle.type_tree.specs.declared.parts.Member.{Member}
use Rattle.type_tree.specs.declared.parts.Member.TheVariants as member
use Rattle.type_tree.specs.declared.parts.Token.{Token}
use Rattle.type_tree.specs.declared.parts.WorldFile.{WorldFile}
use Rattle.type_tree.specs.World.{Facts}
use Rattle.type_tree.specs.Fits.{is_within}
use Rattle.type_tree.specs.Tokens.{file_at, type_rows, member_rows, in_rows, type_token, member_token, field_of, method_of, listed, row_token, row_locals}
use Rattle.type_tree.specs.Whole.{counts, member_fits, members_fit, locals_fit, token_fits, IsWhole}
use Rattle.type_tree.proofs.WholeLemmas.{file_facts, FileFits, file_fits_at}

-- a fact of the chosen one of two values
choose : {A : Type 0} (P : A → Type 0) (b : Bool) (x y : A) → (b ≡ true → P x) → (b ≡ false → P y) → P (if b then x else y)
choose P true x y f g = f refl
choose P false x y f g = g refl

abbrev Good : Facts → Option Token → Type 0
Good w o = IfSome o (λ t. IsTrue (token_fits (counts w) t))

below : (m n : ℕ) → m < n → nat_lt m n ≡ true
below m n h = grind arith

both : (a b : Bool) → a ≡ true → b ≡ true → (a && b) ≡ true
both a b p q = cc

module _ (w : Facts) (f : WorldFile) (fits : FileFits w f) where
  type_good : (before rows row : ℕ) → before + rows ≤ type_rows f → Good w (in_rows rows row (type_token f before row))
  type_good before rows row h =
      choose (Good w) _ _ _ (λ e.
      let p = and_parts _ _ e in
      let q : 0 < row = ltb-true 0 row p.0 in
      let r : row ≤ rows = leb-true row rows p.1 in
      let sig : f.first_sig.0 + before + (row - 1) < length w.sigs = omega arith in
      let array : f.first_sig.0 + type_rows f + before + (row - 1) < length w.sigs = omega arith in
      both _ _ (both _ _ (below _ _ sig) (below _ _ array)) refl) (λ e. tt)

  member_good : (before rows row : ℕ) (m : Member) → before + rows ≤ member_rows f → (0 < row → row ≤ rows → member_fits (counts w) m ≡ true) → Good w (in_rows rows row (member_token f before row m))
  member_good before rows row m h g =
      choose (Good w) _ _ _ (λ e.
      let p = and_parts _ _ e in
      let q : 0 < row = ltb-true 0 row p.0 in
      let r : row ≤ rows = leb-true row rows p.1 in
      let sig : f.first_sig.0 + 2 * type_rows f + before + (row - 1) < length w.sigs = omega arith in
      both _ _ (both _ _ (below _ _ sig) refl) (g q r)) (λ e. tt)

  field_good : (row : ℕ) → 0 < row → row ≤ f.fields → member_fits (counts w) (field_of f row) ≡ true
  field_good row p q =
      let id : f.first_field.0 + (row - 1) < length w.fields = omega arith in
      choose (λ m. member_fits (counts w) m ≡ true) (nat_le row f.loose_fields) member.Lost (member.Field (record { 0 = f.first_field.0 + (row - 1) })) (λ e. refl) (λ e. below _ _ id)

  method_good : (row : ℕ) → 0 < row → row ≤ f.methods → member_fits (counts w) (method_of f row) ≡ true
  method_good row p q =
      let id : f.first_method.0 + (row - 1) < length w.methods = omega arith in
      choose (λ m. member_fits (counts w) m ≡ true) (nat_le row f.loose_methods) member.Lost (member.Method (record { 0 = f.first_method.0 + (row - 1) })) (λ e. refl) (λ e. below _ _ id)

  -- a listed member, also past the end of the list
  listed_good : (ms : List Member) (n : ℕ) → members_fit (counts w) ms ≡ true → member_fits (counts w) (unwrap_or (slice_get ms n) member.Lost) ≡ true
  listed_good [] n h = refl
  listed_good (m ∷ ms) zero h = (and_parts (member_fits (counts w) m) (members_fit (counts w) ms) h).0
  listed_good (m ∷ ms) (suc n) h = listed_good ms n (and_parts (member_fits (counts w) m) (members_fit (counts w) ms) h).1

  row_good : (table row : ℕ) → Good w (row_token f table row)
  unfolding row_token
  row_good table row =
      choose (Good w) (table == 0x02) _ _ (λ _. type_good 0 f.type_defs row (omega arith)) (λ _.
      choose (Good w) (table == 0x01) _ _ (λ _. type_good f.type_defs f.type_refs row (omega arith)) (λ _.
      choose (Good w) (table == 0x1B) _ _ (λ _. type_good (f.type_defs + f.type_refs) f.type_specs row (omega arith)) (λ _.
      choose (Good w) (table == 0x04) _ _ (λ _. member_good 0 f.fields row (field_of f row) (omega arith) (field_good row)) (λ _.
      choose (Good w) (table == 0x06) _ _ (λ _. member_good f.fields f.methods row (method_of f row) (omega arith) (method_good row)) (λ _.
      choose (Good w) (table == 0x0A) _ _ (λ _. member_good (f.fields + f.methods) (length f.member_refs) row (listed f.member_refs row) (omega arith) (λ _ _. listed_good f.member_refs (row - 1) fits.member_refs)) (λ _.
      choose (Good w) (table == 0x2B) _ _ (λ _. member_good (f.fields + f.methods + length f.member_refs) (length f.method_specs) row (listed f.method_specs row) (omega arith) (λ _ _. listed_good f.method_specs (row - 1) fits.method_specs)) (λ _. tt)))))))

-- a run of local variables is in its world
abbrev Within : Facts → Option Locals → Type 0
Within w o = IfSome o (λ l. IsTrue (is_within l.first.0 l.count (length w.sigs)))

within_of : (w : Facts) (o : Option Locals) → locals_fit (counts w) o ≡ true → Within w o
within_of w None h = tt
within_of w (Some l) h = h

run_good : (w : Facts) (ls : List (Option Locals)) (n : ℕ) → list_all (locals_fit (counts w)) ls ≡ true → Within w (unwrap_or (slice_get ls n) None)
run_good w [] n h = tt
run_good w (l ∷ ls) zero h = within_of w l (and_parts (locals_fit (counts w) l) (list_all (locals_fit (counts w)) ls) h).0
run_good w (l ∷ ls) (suc n) h = run_good w ls n (and_parts (locals_fit (counts w) l) (list_all (locals_fit (counts w)) ls) h).1

pub token_good : (w : Facts) (n table row : ℕ) (f : WorldFile) → IsWhole w → file_at w.files n ≡ Some f → IfSome (row_token f table row) (λ t. IsTrue (token_fits (counts w) t))
token_good w n table row f h e = row_good w f (file_facts w f (file_fits_at w n f h e)) table row

pub locals_good : (w : Facts) (n row : ℕ) (f : WorldFile) → IsWhole w → file_at w.files n ≡ Some f → IfSome (row_locals f row) (λ l. IsTrue (is_within l.first.0 l.count (length w.sigs)))
locals_good w n row f h e = choose (Within w) (row == 0) _ _ (λ _. tt) (λ _. run_good w f.locals (row - 1) (file_facts w f (file_fits_at w n f h e)).locals)
