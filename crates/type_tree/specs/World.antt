-- What contracts see of a world.
use Rattle.type_tree.specs.declared.parts.WorldParts.{WorldParts}

-- its parts as plain data: each list is a list, each text the list of its bytes
abbrev pub Facts : Type 0
Facts = WorldParts
