-- The text of a path, and how it is printed.
use Rattle.std.specs.Prelude.{◌≡◌, ℕ, ◌+◌, Bool, ◌/◌, ◌%◌, ◌||◌, ◌==◌, nat_lt, if◌then◌else◌}
use Rattle.std.specs.Prelude.{encode_utf8, [], ◌∷◌, ◌++◌, codes, Some, bytes_eq, refl}
use Rattle.std.specs.List.{flat_map, join_with_byte}
use Rattle.std.specs.Str.{chars}
use Rattle.std.specs.Cmp.{IsPartialOrder, partial_order_from_agreeing_total}
use Rattle.std.specs.Cmp.Lexicographic.{pointwise, slice_cmp, lists_total, nat_list_cmp_total}
use Rattle.std.specs.Cmp.Lexicographic.{lists_ties, texts_ties}
use Rattle.std.specs.Ordering.{nat_cmp}
use Rattle.syn_model.specs.Path.{Bytes, Path, IsPath, path_cmp}

-- The text of a path: `.` for the root, else its names parted by `/`.
abbrev pub text_of : Path → Bytes
text_of [] = codes "."
text_of (name ∷ names) = join_with_byte 47 (name ∷ names)

-- the text names the path
pub record NamesPath (text : Bytes) (path : Path) : Type 0 where
  pub lawful : IsPath path
  pub written : text_of path ≡ text

-- A character below hex 20, hex 7f and the backslash are printed as `\x` and two lower case digits:
-- a terminal may take them for something else.
abbrev pub is_escaped : ℕ → Bool
is_escaped c = nat_lt c 32 || (c == 127 || c == 92)

-- two lower case hexadecimal digits
abbrev pub hex_digit_of : ℕ → ℕ
hex_digit_of n = if nat_lt n 10 then n + 48 else n + 87

abbrev pub padded_hex : ℕ → Bytes
padded_hex c = hex_digit_of (c / 16) ∷ hex_digit_of (c % 16) ∷ []

abbrev pub printed_char : ℕ → Bytes
printed_char c = if is_escaped c then codes "\\x" ++ padded_hex c else encode_utf8 c

abbrev pub printed_name : Bytes → Bytes
printed_name name = flat_map printed_char (chars name)

-- the first name, and each other after a slash
abbrev pub printed_form : Path → Bytes
printed_form [] = codes "."
printed_form (name ∷ names) = printed_name name ++ flat_map (λ other. 47 ∷ printed_name other) names

-- the path q begins with p
abbrev pub IsPrefix : Path → Path → Type 0
IsPrefix p q = (rest : Path) × (p ++ rest ≡ q)

-- the order of paths is equal at equal paths alone
pub paths_po : IsPartialOrder (pointwise bytes_eq) (λ p q. Some (path_cmp p q))
paths_po = partial_order_from_agreeing_total path_cmp (lists_total nat_list_cmp_total) (λ p q. refl)
    (lists_ties (slice_cmp nat_cmp) texts_ties)
