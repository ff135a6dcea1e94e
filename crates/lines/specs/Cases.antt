-- Lines that are refused and lines that are read, each computed from the definitions.
-- Relies on Text and Read. For the reader: nothing cites it.
use Rattle.std.specs.Prelude.{ℕ, ◌≡◌, refl, List, [], ◌∷◌, map, length, replicate}
use Prim.Native.Char.{code}
use Prim.Native.String.{String, [] as none, ◌∷◌ as ◌then◌}
use Rattle.lines.specs.Text.{number_text, digits_text, line_text, record_count}
use Rattle.lines.specs.Read.{Reading, more_digits, read_number, read_numbers, read_record, good_line, bad_line}

-- the bytes of an ASCII text
unfoldable pub bytes : String → List ℕ
bytes none = []
bytes (c then s) = code c ∷ bytes s

-- what reading gives for each text
abbrev pub readings : List String → List Reading
readings lines = map (λ s. read_record (bytes s)) lines

-- lines not as the rules say, each with what is wrong in it
abbrev pub bad_lines : List String
bad_lines =
    ""  -- empty
    ∷ "\n"  -- only a newline
    ∷ "1\t2\t3\t4\t5\t6\t7"  -- no newline
    ∷ "1\t2\t3\t4\t5\t6\t7\n\n"  -- a second newline
    ∷ "1\t2\t3\t4\t5\t6\t7\n8"  -- something after the newline
    ∷ "1\t2\t3\t4\t5\t6\n"  -- six fields
    ∷ "1\t2\t3\t4\t5\t6\t7\t8\n"  -- eight fields
    ∷ "1\t2\t3\t4\t5\t6\t7\t\n"  -- a tab after the last number
    ∷ "1\t2\t3\t4\t5\t6\t\n"  -- an empty last field
    ∷ "\t2\t3\t4\t5\t6\t7\n"  -- an empty first field
    ∷ "1\t\t2\t3\t4\t5\t6\t7\n"  -- two tabs
    ∷ "1\t2\t3\t04\t5\t6\t7\n"  -- a leading zero
    ∷ "00\t2\t3\t4\t5\t6\t7\n"  -- two zeros
    ∷ "+1\t2\t3\t4\t5\t6\t7\n"  -- a sign
    ∷ "-1\t2\t3\t4\t5\t6\t7\n"  -- a minus
    ∷ " 1\t2\t3\t4\t5\t6\t7\n"  -- a space
    ∷ "1 2\t3\t4\t5\t6\t7\n"  -- a space for a tab
    ∷ "1\t2\t3\t4\t5\t6\t7\r\n"  -- a carriage return
    ∷ "1\t2\t3\t4a\t5\t6\t7\n"  -- another byte
    ∷ "1\t2\t3\t4/\t5\t6\t7\n"  -- the byte below the digits
    ∷ "1\t2\t3\t:\t5\t6\t7\n"  -- the byte above the digits
    ∷ "18446744073709551616\t2\t3\t4\t5\t6\t7\n"  -- 2^64
    ∷ "1\t2\t3\t4\t5\t6\t99999999999999999999\n"  -- twenty nines
    ∷ "1\t2\t3\t100000000000000000000\t5\t6\t7\n"  -- twenty-one digits
    ∷ []

pub bad_lines_get_8 : readings bad_lines ≡ replicate (length bad_lines) bad_line
unfolding bytes read_record read_numbers read_number more_digits
bad_lines_get_8 = refl

-- lines as the rules say, the longest among them, and their records
abbrev pub good_lines : List String
good_lines =
    "0\t0\t0\t0\t0\t0\t0\n"
    ∷ "1\t22\t333\t4444\t0\t90\t10\n"
    ∷ "0\t1\t0\t0\t0\t0\t283673999966215\n"
    ∷ "18446744073709551615\t18446744073709551615\t18446744073709551615\t18446744073709551615\t18446744073709551615\t18446744073709551615\t18446744073709551615\n"
    ∷ []

abbrev pub good_records : List (List ℕ)
good_records =
    replicate record_count 0
    ∷ (1 ∷ 22 ∷ 333 ∷ 4444 ∷ 0 ∷ 90 ∷ 10 ∷ [])
    ∷ (0 ∷ 1 ∷ 0 ∷ 0 ∷ 0 ∷ 0 ∷ 283673999966215 ∷ [])
    ∷ replicate record_count 18446744073709551615
    ∷ []

pub good_lines_are_read : readings good_lines ≡ map good_line good_records
unfolding bytes read_record read_numbers read_number more_digits
good_lines_are_read = refl

pub good_lines_are_written : map line_text good_records ≡ map bytes good_lines
unfolding bytes line_text number_text digits_text
good_lines_are_written = refl
