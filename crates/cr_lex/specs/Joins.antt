-- The bytes of a file without joined lines, and the trigraphs in them (C11 5.1.1.2, phases 1 and 2).
use Rattle.std.specs.Prelude.{ℕ, zero, suc, ◌+◌, ◌-◌, Bool, true, false, ◌&&◌, ◌==◌, List, [], ◌∷◌, map, take, drop, count_by, codes, if◌then◌else◌}
use Rattle.cr_lex.specs.Spellings.{is_one_of}

-- the bytes begin with these
abbrev pub begins : List ℕ → List ℕ → Bool
begins [] bytes = true
begins (f ∷ fs) [] = false
begins (f ∷ fs) (b ∷ bs) = f == b && begins fs bs

-- How many bytes the join at the front has, if there is one: a backslash and a line feed, or with a carriage
-- return between them (C11 5.1.1.2, phase 2).
abbrev pub join_len : List ℕ → ℕ
join_len bytes = if begins (92 ∷ 10 ∷ []) bytes then 2 else if begins (92 ∷ 13 ∷ 10 ∷ []) bytes then 3 else 0

-- a trigraph sequence is at the front, in bytes of the file that follow one another (C11 5.2.1.1)
abbrev pub is_trigraph : List ℕ → Bool
is_trigraph (a ∷ b ∷ c ∷ bytes) = a == 63 && (b == 63 && is_one_of (codes "=(/)'<!>-") c)
is_trigraph _ = false

-- A byte that is no part of a join: where it stands, on which line, and whether a trigraph begins with it.
pub record Cell : Type 0 where
  pub byte : ℕ
  pub at : ℕ
  pub line : ℕ
  pub trigraph : Bool

-- the line of what follows a byte
abbrev pub line_after : ℕ → ℕ → ℕ
line_after line b = if b == 10 then line + 1 else line

-- how many bytes from here on belong to a join, where so many belong to one that began before
abbrev pub joined_from : List ℕ → ℕ → ℕ
joined_from bytes zero = join_len bytes
joined_from bytes (suc n) = suc n

abbrev pub unless_joined : Cell → List Cell → ℕ → List Cell
unless_joined c cs zero = c ∷ cs
unless_joined c cs (suc n) = cs

-- The bytes in no join, of those from an offset on, of which the first `skip` belong to a join.
unfoldable pub cells : ℕ → ℕ → ℕ → List ℕ → List Cell
cells skip at line [] = []
cells skip at line (b ∷ bs) =
    unless_joined
    (record { byte = b; at = at; line = line; trigraph = is_trigraph (b ∷ bs) })
    (cells (joined_from (b ∷ bs) skip - 1) (at + 1) (line_after line b) bs)
    (joined_from (b ∷ bs) skip)

-- what is written in some cells
abbrev pub text_of : List Cell → List ℕ
text_of = map (λ c. c.byte)

-- one more than the line feeds before an offset
abbrev pub line_at : List ℕ → ℕ → ℕ
line_at bytes at = 1 + count_by (λ b. b == 10) (take at bytes)

-- the cells from an offset on, which is not inside a join
unfoldable pub rest : List ℕ → ℕ → List Cell
rest bytes at = cells zero at (line_at bytes at) (drop at bytes)
