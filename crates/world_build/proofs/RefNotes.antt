-- Rows of MemberRef that say the same have the same member.
use Rattle.std.proofs.Common.{◌≡◌, ℕ, ◌-◌, ◌<◌, ◌≤◌, Bool, true, List, length, get_or, Option, Some, cond, eqb, if◌then◌else◌, sym, ap, ◌∙◌, subst, arith}
use Rattle.std.specs.Prelude.{◌&&◌}
use Rattle.std.specs.Option.{IfSome, option_and_then}
use Rattle.std.proofs.lemmas.Bool.{and_parts, eqb-true, le-leb}
use Rattle.std.proofs.lemmas.List.FromFn.{length-map-range_with_len, get_or-map-range_with_len}
use Rattle.clr_base.specs.declared.ids.NameId.{NameId}
use Rattle.cli_sigs.specs.declared.signature.SigMethod.{SigMethod}
use Rattle.cli_sigs.specs.declared.signature.SigTy.{SigTy}
use Rattle.cli_tables.specs.declared.schema.CodedIndex.TheVariants.{MemberRefParent}
use Rattle.indexmap.specs.IndexMap.{IndexMap}
use Rattle.type_tree.specs.declared.parts.Member.{Member}
use Rattle.type_tree.specs.declared.parts.Member.TheVariants.{Lost}
use Rattle.type_tree.specs.declared.tree.Ty.{Ty}
use Rattle.type_tree.specs.Kinds.{head}
use Rattle.world_build.specs.declared.member_refs.RefCells.{RefCells}
use Rattle.image_rows.specs.Cells.{at, rows, text, text_by, blob, blob_by, coded}
use Rattle.world_build.specs.MemberRefs.{AreNoted, cells_of, members_of_refs, noted_at, same_cells}
use Rattle.type_members.specs.MemberTable.{open_of, own_field, own_method}
use Rattle.type_members.specs.Members.{field_in, method_in}
use Rattle.core_types.specs.Names.{id_in}
use Rattle.world_build.specs.References.{Reader, field_member, member_ref, method_member, ref_blob, ref_field_sig, ref_member, ref_method_sig, ref_name_id, ref_owner}
use Rattle.image_rows.specs.Blobs.{begins_with}
use Rattle.type_members.specs.Trees.{tree, type_at_row}
use Rattle.clr_base.proofs.ListFacts.{both, choose}

module _ (w : Reader) where
  -- the member by the type that owns it, its name, its blob, and what that says of a field and of a method
  abbrev by_parts : Ty → NameId → List ℕ → SigTy → SigMethod → Member
  by_parts owner name bytes field method =
      if begins_with 0x06 bytes then field_member (option_and_then (λ d. own_field w.members d name (tree w.types field)) (head owner))
      else method_member (option_and_then (λ d. own_method w.members d name (open_of w.types method)) (head owner))

  module _ (a b : ℕ) where
    same_owner : at w.tables 0x0A a 0 ≡ at w.tables 0x0A b 0 → ref_owner w a ≡ ref_owner w b
    unfolding ref_owner
    same_owner e = ap (λ (c : ℕ). type_at_row w.types w.tables (coded MemberRefParent c)) e

    same_name : at w.tables 0x0A a 1 ≡ at w.tables 0x0A b 1 → ref_name_id w a ≡ ref_name_id w b
    unfolding ref_name_id text
    same_name e = ap (λ (n : ℕ). id_in w.names (text_by w.tables n)) e

    same_blob : at w.tables 0x0A a 2 ≡ at w.tables 0x0A b 2 → ref_blob w.tables a ≡ ref_blob w.tables b
    unfolding blob
    same_blob e = ap (blob_by w.tables) e

    same_field : ref_blob w.tables a ≡ ref_blob w.tables b → ref_field_sig w.tables a ≡ ref_field_sig w.tables b
    unfolding ref_field_sig
    same_field e = ap (field_in w.tables) e

    same_method : ref_blob w.tables a ≡ ref_blob w.tables b → ref_method_sig w.tables a ≡ ref_method_sig w.tables b
    unfolding ref_method_sig
    same_method e = ap (method_in w.tables) e

    same_parts : ref_owner w a ≡ ref_owner w b → ref_name_id w a ≡ ref_name_id w b → ref_blob w.tables a ≡ ref_blob w.tables b → member_ref w a ≡ member_ref w b
    unfolding member_ref
    same_parts owner name bytes =
        ap (λ (t : Ty). by_parts t (ref_name_id w a) (ref_blob w.tables a) (ref_field_sig w.tables a) (ref_method_sig w.tables a)) owner
        ∙ ap (λ (n : NameId). by_parts (ref_owner w b) n (ref_blob w.tables a) (ref_field_sig w.tables a) (ref_method_sig w.tables a)) name
        ∙ ap (λ (s : List ℕ). by_parts (ref_owner w b) (ref_name_id w b) s (ref_field_sig w.tables a) (ref_method_sig w.tables a)) bytes
        ∙ ap (λ (f : SigTy). by_parts (ref_owner w b) (ref_name_id w b) (ref_blob w.tables b) f (ref_method_sig w.tables a)) (same_field bytes)
        ∙ ap (λ (m : SigMethod). by_parts (ref_owner w b) (ref_name_id w b) (ref_blob w.tables b) (ref_field_sig w.tables b) m) (same_method bytes)

    pub same_member : same_cells (cells_of w.tables a) (cells_of w.tables b) ≡ true → member_ref w a ≡ member_ref w b
    same_member e =
        let parts = and_parts (eqb (at w.tables 0x0A a 0) (at w.tables 0x0A b 0)) (eqb (at w.tables 0x0A a 1) (at w.tables 0x0A b 1) && eqb (at w.tables 0x0A a 2) (at w.tables 0x0A b 2)) e in
        let others = and_parts (eqb (at w.tables 0x0A a 1) (at w.tables 0x0A b 1)) (eqb (at w.tables 0x0A a 2) (at w.tables 0x0A b 2)) parts.1 in
        same_parts (same_owner (eqb-true _ _ parts.0)) (same_name (eqb-true _ _ others.0)) (same_blob (eqb-true _ _ others.1))

  -- the member that is noted of what a row says
  pub noted_is : {S : Type 0} (noted : IndexMap RefCells Member S) (row : ℕ) (cells : RefCells) (member : Member) → AreNoted w noted
      → cells ≡ cells_of w.tables row → noted_at noted cells ≡ Some member → member ≡ member_ref w row
  noted_is noted row cells member are said e =
      let there : noted_at noted (cells_of w.tables row) ≡ Some member = ap (noted_at noted) (sym said) ∙ e in
      sym (subst (λ (o : Option Member). IfSome o (λ x. member_ref w row ≡ x)) there (are.each row))

  -- the member of one row more is noted
  pub noted_more : {S : Type 0} (old new : IndexMap RefCells Member S) (row : ℕ) (cells : RefCells) (member : Member) → AreNoted w old
      → cells ≡ cells_of w.tables row → member ≡ member_ref w row
      → ((k : RefCells) → noted_at new k ≡ cond (same_cells cells k) (Some member) (noted_at old k)) → AreNoted w new
  noted_more old new row cells member before said is updates = record {
    each = λ other.
        let asked = cells_of w.tables other in
        subst (λ (o : Option Member). IfSome o (λ x. member_ref w other ≡ x)) (sym (updates asked))
        (choose (λ (o : Option Member). IfSome o (λ x. member_ref w other ≡ x)) (same_cells cells asked) (Some member) (noted_at old asked)
        (λ e. sym (is ∙ same_member row other (subst (λ (k : RefCells). same_cells k asked ≡ true) said e))) (λ _. before.each other));
  }

  -- the members of all rows, one at each row
  pub refs_within : (refs : List Member) (row : ℕ) → refs ≡ members_of_refs w → 1 ≤ row → row ≤ rows w.tables 0x0A → row - 1 < length refs
  refs_within refs row are first last =
      let count : length refs ≡ rows w.tables 0x0A = ap length are ∙ length-map-range_with_len (member_ref w) 1 (rows w.tables 0x0A) in
      omega arith

  pub ref_given : (refs : List Member) (row : ℕ) (d : Member) → refs ≡ members_of_refs w → 1 ≤ row → row ≤ rows w.tables 0x0A
      → get_or refs (row - 1) d ≡ member_ref w row
  ref_given refs row d are first last =
      ap (λ (xs : List Member). get_or xs (row - 1) d) are
      ∙ get_or-map-range_with_len (member_ref w) 1 (rows w.tables 0x0A) (row - 1) row d (omega arith) (omega arith)

  pub ref_there : (row : ℕ) → 1 ≤ row → row ≤ rows w.tables 0x0A → ref_member w row ≡ member_ref w row
  ref_there row first last =
      ap (λ (b : Bool). if b then member_ref w row else Lost) (both _ _ (le-leb 1 row first) (le-leb row (rows w.tables 0x0A) last))
