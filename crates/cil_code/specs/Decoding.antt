-- What a method body says, from its header on, or its first fault (II.25.4).
use Rattle.std.specs.Prelude.{ℕ, ◌/◌, ◌%◌, Bool, false, ◌||◌, nat_lt, ◌==◌, if◌then◌else◌, List, length, drop, slice_index, Result, Ok, Err}
use Rattle.byteorder.specs.Endian.{little_number}
use Rattle.cil_code.specs.declared.code_fault.CodeFault.{CodeFault}
use Rattle.cil_code.specs.declared.code_fault.CodeFault.TheVariants as fault
use Rattle.cil_code.specs.declared.body.Body.{Body}
use Rattle.cil_code.specs.declared.body.Placed.{Placed}
use Rattle.cil_code.specs.Reading.{◌>>=◌, list_at}

-- no locals, or a row of StandAloneSig
abbrev pub is_locals_token : ℕ → Bool
is_locals_token token = (token == 0) || (token / 0x1000000 == 0x11)

-- whether a flag, which is a power of 2, is set
abbrev pub has_flag : ℕ → ℕ → Bool
has_flag flags flag = (flags / flag) % 2 == 1

-- the instructions of so many bytes behind the header
unfoldable pub code_of : ℕ → ℕ → List ℕ → Result (List Placed) CodeFault
code_of header size bytes = list_at size (record { header = header; place = 0; left = size; bytes = drop header bytes })

-- A tiny header is one byte, whose upper six bits are the size of the code.
unfoldable pub tiny_of : ℕ → List ℕ → Result Body CodeFault
tiny_of first bytes = code_of 1 (first / 4) bytes >>= λ code. Ok (record { max_stack = 8; init = false; locals = 0; code = code })

-- A fat header is twelve bytes: flags and size of the header, max stack, size of the code, locals. Of the flags, 0x8 says that sections follow the code, and 0x10 that locals begin as zero.
unfoldable pub fat_of : ℕ → List ℕ → Result Body CodeFault
fat_of first bytes =
    let locals = little_number 4 (drop 8 bytes) in
    if has_flag first 0x8 then Err (fault.NotInProfile 0)
    else (if nat_lt (length bytes) 12 then Err (fault.BadBody (length bytes))
    else (if is_locals_token locals
    then (code_of 12 (little_number 4 (drop 4 bytes)) bytes >>= λ code.
    Ok (record { max_stack = little_number 2 (drop 2 bytes); init = has_flag first 0x10; locals = locals; code = code }))
    else Err (fault.BadBody 8)))

-- the body, by the low two bits of its first byte
unfoldable pub body_of : List ℕ → Result Body CodeFault
body_of bytes =
    let first = slice_index bytes 0 in
    if length bytes == 0 then Err (fault.BadBody 0)
    else (if first % 4 == 2 then tiny_of first bytes
    else (if first % 4 == 3 then fat_of first bytes else Err (fault.BadBody 0)))
