-- How much the core library has: its definitions, methods and signatures have the first numbers of a world.
use Rattle.std.specs.Prelude.{ℕ}

abbrev pub core_defs : ℕ
core_defs = 36

abbrev pub core_methods : ℕ
core_methods = 98

-- String, Type and String[]
abbrev pub core_sigs : ℕ
core_sigs = 3
