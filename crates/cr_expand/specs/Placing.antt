-- What is put in, in the place of the macro's name.
use Rattle.std.specs.Prelude.{◌≡◌, ℕ, Bool, List, ◌++◌, map}
use Rattle.cr_base.specs.declared.token.PpTok.{PpTok}
use Rattle.cr_expand.specs.declared.held.Held.{Held}
use Rattle.cr_macros.specs.Tokens.{Text, Token, with_names}
use Rattle.cr_macros.specs.Substitution as spec
use Rattle.cr_expand.specs.HideSets.{Sets, set_at, with_numbers, Puts, Grows}
use Rattle.cr_expand.specs.Held.{all_held, AreTables, AreKnown}

-- The token has the name's site and line, and this white space before it, and the names of both sets are hidden from it.
abbrev pub IsPlacedAt : Sets → Sets → PpTok → ℕ → Held → Bool → Held → Type 0
IsPlacedAt old new name hide h space r =
    Puts old (with_numbers (set_at old hide) (set_at old h.hide.0)) new r.hide.0
    × (r.token ≡ record h.token { site = name.site; line = name.line; space = space })

-- a token in the place of a name, with more names hidden
abbrev pub placed_one : Token → List Text → Token → Token
placed_one name hide t = record t { site = name.site; line = name.line; hide = with_names hide t.hide }

-- What stands when some of the tokens are placed.
pub record IsPlacing (names : List Text) (sets more : Sets) (name : Token) (hide : List Text) (before rest : List Held) (done : List Token) (out : List Held) : Type 0 where
  pub grows : Grows sets more
  pub tables : AreTables names more
  pub known : AreKnown names more out
  pub placed : all_held names more out ++ map (placed_one name hide) (all_held names sets rest) ≡ done

-- The tokens are placed: they read as the definition says.
pub record ArePlaced (names : List Text) (sets more : Sets) (name : Token) (hide : List Text) (tokens out : List Held) : Type 0 where
  pub grows : Grows sets more
  pub tables : AreTables names more
  pub known : AreKnown names more out
  pub placed : all_held names more out ≡ spec.placed name hide (all_held names sets tokens)
