use Rattle.std.proofs.Common.{inr, List, ℕ, ◌+◌, ◌∙◌, subst, refl, arith}
use Rattle.clr_base.specs.Files.{IsFile}
use Rattle.clr_core.specs.Fetched.{Files}
use Rattle.clr_core.proofs.Fetching.{fetched_more, no_fault, none_asked, once_more, where_done}
use Rattle.clr_core.proofs.FileWords.{as_many}
use Rattle.clr_core.proofs.fetch.fetch_all.Goals as goal

pub loop-k-preserved : goal.loop-k-preserved
loop-k-preserved g c =
    let file = subst (λ (files : Files). IsFile files c.as_str-name.result.now c.in-Ok-fetch.bytes.items) c.loop-k.invariant.kept c.in-Ok-fetch.ensures.bytes in
    let len = where_done c.push.result _ _ _ c.unwrap.result c.unwrap.ensures c.push.ensures.len in
    record {
      bytes =
          fetched_more (g.F.Shelf.files c.args.shelf.now) c.args.names.now c.loop-k.k c.index-names-k.result c.loop-k.files.items c.push.new.self.items
          c.in-Ok-fetch.bytes c.loop-k-test.true c.index-names-k.is c.loop-k.invariant.bytes
          (subst (λ (name : List ℕ). IsFile (g.F.Shelf.files c.args.shelf.now) name c.in-Ok-fetch.bytes.items) c.as_str-name.ensures.value file)
          (where_done c.push.result _ _ _ c.unwrap.result c.unwrap.ensures c.push.ensures.items);
      len = omega (arith, len, c.loop-k.invariant.len);
      room = omega (arith, c.loop-k.invariant.room, c.push.ensures.capacity);
      kept = c.fetch.ensures.kept ∙ c.loop-k.invariant.kept;
      asked = once_more c.loop-k.k _ _ _ c.fetch.ensures.asked c.loop-k.invariant.asked;
      gave = once_more c.loop-k.k _ _ _ c.in-Ok-fetch.ensures.gave c.loop-k.invariant.gave;
      calm = c.in-Ok-fetch.ensures.cause ∙ c.loop-k.invariant.calm;
    }

pub returns-in-Err-Memory-clause-stopped : goal.returns-in-Err-Memory-clause-stopped
returns-in-Err-Memory-clause-stopped g c = record {
  calls = c.loop-k.k + 1;
  given = c.loop-k.k;
  last = inr refl;
  within = omega (arith, c.loop-k-test.true, as_many c.args.names.now);
  calm = record {
    asked = once_more c.loop-k.k _ _ _ c.fetch.ensures.asked c.loop-k.invariant.asked;
    gave = c.in-Err-Memory.ensures.gave ∙ c.loop-k.invariant.gave;
    faults = no_fault _ _ _ c.in-Err-Memory.field-0-is c.in-Err-Memory.ensures.cause ∙ c.loop-k.invariant.calm;
  };
}

pub returns-in_default-clause-stopped : goal.returns-in_default-clause-stopped
returns-in_default-clause-stopped g c =
    none_asked _ c.args.names.now c.with_capacity.result c.in_default.field-0 c.in_default.is c.with_capacity.ensures.succeeds refl refl refl
