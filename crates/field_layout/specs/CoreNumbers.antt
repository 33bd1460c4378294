-- The numbers of the core's types that layouts speak of.
use Rattle.std.specs.Prelude.{ℕ}

abbrev pub boolean : ℕ
boolean = 4

abbrev pub char : ℕ
char = 5

abbrev pub s_byte : ℕ
s_byte = 6

abbrev pub byte : ℕ
byte = 7

abbrev pub int_16 : ℕ
int_16 = 8

abbrev pub u_int_16 : ℕ
u_int_16 = 9

abbrev pub int_32 : ℕ
int_32 = 10

abbrev pub u_int_32 : ℕ
u_int_32 = 11

abbrev pub int_64 : ℕ
int_64 = 12

abbrev pub u_int_64 : ℕ
u_int_64 = 13

abbrev pub int_ptr : ℕ
int_ptr = 14

abbrev pub u_int_ptr : ℕ
u_int_ptr = 15

abbrev pub single : ℕ
single = 16

abbrev pub double : ℕ
double = 17

abbrev pub runtime_type_handle : ℕ
runtime_type_handle = 21

abbrev pub exception : ℕ
exception = 28
