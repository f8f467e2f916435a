-- Reads in turn.
use Rattle.std.proofs.Common.{◌≡◌, ℕ, List, [], ◌∷◌, ◌++◌, sym, ap, ◌∙◌, append-nil, append_assoc}
use Rattle.std.proofs.lemmas.List.Elements.{All-nil, All-cons, All-append, All-weaker}
use Rattle.cr_world.specs.Outside.{Reading, OnlyRead}

-- nothing was read
pub read_none : (May : List ℕ → Type 0) (before now : List Reading) → now ≡ before → OnlyRead May before now
read_none May before now e = record { more = []; gained = e ∙ sym (append-nil before); each = All-nil (λ (reading : Reading). May reading.0) }

-- one path was read
pub read_one : (May : List ℕ → Type 0) (before now : List Reading) (path bytes : List ℕ) → now ≡ before ++ (path, bytes) ∷ [] → May path → OnlyRead May before now
read_one May before now path bytes e may = record {
  more = (path, bytes) ∷ [];
  gained = e;
  each = All-cons (λ (reading : Reading). May reading.0) (path, bytes) [] may (All-nil (λ (reading : Reading). May reading.0));
}

pub read_both : (May : List ℕ → Type 0) (before now later : List Reading) → OnlyRead May before now → OnlyRead May now later → OnlyRead May before later
read_both May before now later one two = record {
  more = one.more ++ two.more;
  gained = two.gained ∙ ap (λ xs. xs ++ two.more) one.gained ∙ append_assoc before one.more two.more;
  each = All-append (λ (reading : Reading). May reading.0) one.more two.more one.each two.each;
}

-- a reason for one fact is one for another that it gives
pub read_wider : (P Q : List ℕ → Type 0) → ((path : List ℕ) → P path → Q path) → (before now : List Reading) → OnlyRead P before now → OnlyRead Q before now
read_wider P Q wider before now one = record {
  more = one.more;
  gained = one.gained;
  each = All-weaker (λ (reading : Reading). P reading.0) (λ (reading : Reading). Q reading.0) (λ reading h. wider reading.0 h) one.more one.each;
}
