use Rattle.std.proofs.Common.{◌≡◌, All, Ok, length, true, take, drop}
use Rattle.image_files.specs.Counts.{are_few, totals_of}
use Rattle.image_files.specs.Images.{bytes_of_each, images_of, images_behind}
use Rattle.image_rows.specs.Rows.{ArePassed}
use Rattle.image_rows.specs.SignatureChecks.{AreSigned}
use Rattle.image_files.specs.Images.{tables_in}
use Rattle.image_files.proofs.images.read_images.Given as goal

abbrev pub invariant-loop-k : goal.invariant-loop-k
invariant-loop-k l = record {
  count : length l.images ≡ l.k;
  passed : images_of (bytes_of_each (take l.k l.files)) ≡ Ok l.images;
  all : l.images ≡ tables_in (bytes_of_each (take l.k l.files));
  behind : images_of (bytes_of_each l.files) ≡ images_behind l.images (bytes_of_each (drop l.k l.files));
  counted : l.totals ≡ totals_of l.images;
  few : are_few l.totals ≡ true;
  rows : All ArePassed l.images;
  signatures : All AreSigned l.images;
}
