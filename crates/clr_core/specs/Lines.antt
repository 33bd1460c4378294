-- The lines that tell why a run stopped.
use Rattle.std.specs.Prelude.{ℕ, List, ◌++◌, codes, decimal}
use Rattle.clr_base.specs.declared.image_fault.FaultKind.{FaultKind}
use Rattle.clr_base.specs.declared.image_fault.FaultKind.TheVariants.{NotPe, NoCli, OutsideFile, BadRoot, BadStreams, BadTables, BadIndex, BadText, BadSignature, TooMany}
use Rattle.clr_base.specs.declared.image_fault.ImageFault.{ImageFault}

abbrev pub kind_name : FaultKind → List ℕ
kind_name NotPe = codes "NotPe"
kind_name NoCli = codes "NoCli"
kind_name OutsideFile = codes "OutsideFile"
kind_name BadRoot = codes "BadRoot"
kind_name BadStreams = codes "BadStreams"
kind_name BadTables = codes "BadTables"
kind_name BadIndex = codes "BadIndex"
kind_name BadText = codes "BadText"
kind_name BadSignature = codes "BadSignature"
kind_name TooMany = codes "TooMany"

unfoldable pub usage_line : List ℕ
usage_line = codes "clr: usage: names FILE.. / types FILE.. -- TYPE.. / run OPTION.. FILE.. -- ENTRY.. / big N\n"

unfoldable pub unread_line : List ℕ → List ℕ
unread_line file = codes "clr: " ++ file ++ codes ": read fault\n"

unfoldable pub refused_line : List ℕ → ImageFault → List ℕ
refused_line file fault = codes "clr: " ++ file ++ codes ": " ++ kind_name fault.kind ++ codes " " ++ decimal fault.place ++ codes "\n"

unfoldable pub unwritten_line : List ℕ
unwritten_line = codes "clr: write fault\n"

unfoldable pub memory_line : List ℕ
memory_line = codes "clr: want of memory\n"
