-- What is open stays as it is when the table of names grows.
use Rattle.std.proofs.Common.{◌≡◌, ℕ, ◌<◌, ◌≤◌, List, [], ◌∷◌, ◌++◌, length, get_or, refl, sym, ap, subst, ◌∙◌, arith, length-append}
use Rattle.std.specs.List.{AllByRecursion}
use Rattle.std.proofs.lemmas.List.{get_or_append_left}
use Rattle.cr_base.specs.declared.token.Name.{Name}
use Rattle.cr_base.specs.declared.token.PathNo.{PathNo}
use Rattle.cr_base.specs.declared.token.Place.{Place}
use Rattle.cr_base.specs.declared.token.Origin.{Origin}
use Rattle.cr_base.specs.declared.token.Origin.TheVariants.{At}
use Rattle.cr_base.specs.declared.token.PpTok.{PpTok}
use Rattle.cr_lex.specs.Lexing.{Lexed, with_token}
use Rattle.cr_lex.specs.Seen.{seen, IsOf}
use Rattle.cr_lex.specs.declared.fault.LexStep.{LexStep}
use Rattle.cr_lex.specs.declared.fault.LexStep.TheVariants as step
use Rattle.cr_lex.specs.Lexers.{left}
use Rattle.cr_macros.specs.Tokens.{Text, Token, token_of, tokens_of}
use Rattle.cr_macros.specs.Definition.{text_of}
use Rattle.cr_snapshot.specs.declared.known.KnownFile.{KnownFile}
use Rattle.cr_snapshot.specs.Files.{Present, Unknown, finding, StaysKnown, NumbersItsPath}
use Rattle.cr_expand.specs.HideSets.{Grows}
use Rattle.cr_preproc.specs.declared.open_file.OpenFile.{OpenFile}
use Rattle.cr_preproc.specs.declared.reader.Reader.{Reader}
use Rattle.cr_phase4.specs.Lines.{token_in}
use Rattle.cr_preproc.specs.Readers.{IsReading, IsNext, before, reading}
use Rattle.cr_preproc.specs.Seen.{IsNamed, AreNamed}
use Rattle.cr_preproc.specs.OpenFiles.{Reading, reading_of, bytes_of, bytes_at, IsOpen}

longer : (names new : List Text) → Grows names new → length names ≤ length new
longer names new g = let a = ap length g.1 in let b = length-append names g.0 in omega (arith, a, b)

pub text_later : (names new : List Text) (n : Name) → Grows names new → n.0 < length names → text_of new n ≡ text_of names n
text_later names new n g h = ap (λ l. get_or l n.0 []) g.1 ∙ get_or_append_left names g.0 [] n.0 h

pub given_later : (names new : List Text) (n : ℕ) → Grows names new → n < length names → n < length new
given_later names new n g h = let l = longer names new g in omega (arith, h, l)

token_later : (names new : List Text) (t : PpTok) → Grows names new → IsNamed names t → token_of new [] t ≡ token_of names [] t
token_later names new t g h =
    ap {A = Text} (λ x. record { kind = t.kind; text = x; origin = t.origin; site = t.site; line = t.line; end = t.end; space = t.space; first = t.first; joined = t.joined; hide = [] }) (text_later names new t.text g h)

-- the same tokens by texts
pub tokens_later : (names new : List Text) (ts : List PpTok) → Grows names new → AreNamed names ts → tokens_of new ts ≡ tokens_of names ts
tokens_later names new [] g h = refl
tokens_later names new (t ∷ ts) g h =
    ap {A = Token} (λ x. x ∷ tokens_of new ts) (token_later names new t g h.0) ∙ ap {A = List Token} (λ l. token_of names [] t ∷ l) (tokens_later names new ts g h.1)

pub named_later : (names new : List Text) (ts : List PpTok) → Grows names new → AreNamed names ts → AreNamed new ts
named_later names new [] g h = h
named_later names new (t ∷ ts) g h = (given_later names new t.text.0 g h.0, named_later names new ts g h.1)

seen_later : (names new : List Text) (file : PathNo) (t : PpTok) → Grows names new → IsOf file names t → seen new t ≡ seen names t
seen_later names new file t g h =
    ap {A = Text} (λ x. record { kind = t.kind; text = x; at = t.site.offset; end = t.end; line = t.line; space = t.space; first = t.first; joined = t.joined }) (text_later names new t.text g h.given)

pub of_later : (names new : List Text) (file : PathNo) (t : PpTok) → Grows names new → IsOf file names t → IsOf file new t
of_later names new file t g h = record { path = h.path; origin = h.origin; given = given_later names new t.text.0 g h.given }

pub line_later : (names new : List Text) (file : PathNo) (ts : List PpTok) → Grows names new → AllByRecursion (IsOf file names) ts → AllByRecursion (IsOf file new) ts
line_later names new file [] g h = h
line_later names new file (t ∷ ts) g h = (of_later names new file t g h.0, line_later names new file ts g h.1)

-- the tokens of a file are named
pub named_of : (names : List Text) (file : PathNo) (ts : List PpTok) → AllByRecursion (IsOf file names) ts → AreNamed names ts
named_of names file [] h = h
named_of names file (t ∷ ts) h = (h.0.given, named_of names file ts h.1)

before_later : (names new : List Text) (file : PathNo) (rest : Lexed) (ahead : LexStep) → Grows names new → IsNext file names rest ahead → before new rest ahead ≡ before names rest ahead
before_later names new file rest (step.Token t) g h = ap (λ x. with_token x rest) (seen_later names new file t g h)
before_later names new file rest step.End g h = refl
before_later names new file rest (step.Fault f) g h = refl

next_later : (names new : List Text) (file : PathNo) (rest : Lexed) (ahead : LexStep) → Grows names new → IsNext file names rest ahead → IsNext file new rest ahead
next_later names new file rest (step.Token t) g h = of_later names new file t g h
next_later names new file rest step.End g h = h
next_later names new file rest (step.Fault f) g h = h

pub reader_later : (names new : List Text) (bytes : Text) (r : Reader) → Grows names new → IsReading names bytes r → IsReading new bytes r
reader_later names new bytes r g h = record { within = h.within; file = h.file; next = next_later names new r.file (left bytes r.lexer) r.ahead g h.next }

left_later : (names new : List Text) (bytes : Text) (r : Reader) → Grows names new → IsReading names bytes r → reading new bytes r ≡ reading names bytes r
left_later names new bytes r g h = before_later names new r.file (left bytes r.lexer) r.ahead g h.next

-- the bytes that an open file is read in
pub open_bytes : (names : List Text) (files : List KnownFile) (f : OpenFile) (o : IsOpen names files f) → bytes_at files f.path ≡ o.bytes
open_bytes names files f o = ap bytes_of o.found

pub open_later : (names new : List Text) (files : List KnownFile) (f : OpenFile) → Grows names new → IsOpen names files f → IsOpen new files f
open_later names new files f g o = record {
  bytes = o.bytes;
  found = o.found;
  small = o.small;
  number = o.number;
  known = o.known;
  reading = reader_later names new o.bytes f.reader g o.reading;
  reader = o.reader;
  literal = given_later names new f.literal.0 g o.literal;
  literal_text = text_later names new f.literal g o.literal ∙ o.literal_text;
  run = named_later names new f.run.items g o.run;
  line = line_later names new f.number f.line.items g o.line;
}

left_at_later : (names new : List Text) (files : List KnownFile) (f : OpenFile) → Grows names new → IsOpen names files f → reading new (bytes_at files f.path) f.reader ≡ reading names (bytes_at files f.path) f.reader
left_at_later names new files f g o =
    ap (λ b. reading new b f.reader) (open_bytes names files f o) ∙ left_later names new o.bytes f.reader g o.reading ∙ ap (λ b. reading names b f.reader) (sym (open_bytes names files f o))

abbrev pub with_parts : OpenFile → List Token → List Token → Lexed → Reading
with_parts f run line rest = record { levels = f.levels; path = f.path; number = f.number.0; open_ifs = f.open_ifs; run = run; taken = line; left = rest }

pub reading_later : (names new : List Text) (files : List KnownFile) (f : OpenFile) → Grows names new → IsOpen names files f → reading_of new files f ≡ reading_of names files f
reading_later names new files f g o =
    ap (λ x. with_parts f x (tokens_of new f.line.items) (reading new (bytes_at files f.path) f.reader)) (tokens_later names new f.run.items g o.run)
    ∙ ap (λ x. with_parts f (tokens_of names f.run.items) x (reading new (bytes_at files f.path) f.reader)) (tokens_later names new f.line.items g (named_of names f.number f.line.items o.line))
    ∙ ap (λ x. with_parts f (tokens_of names f.run.items) (tokens_of names f.line.items) x) (left_at_later names new files f g o)

-- a token as the definitions see it in its file
pub in_token : (file : PathNo) (names : List Text) (t : PpTok) → IsOf file names t → token_in file.0 (seen names t) ≡ token_of names [] t
in_token file names t h = ap (λ p. at (place p) (At (place p))) (sym h.path) ∙ ap (λ o. at t.site o) (sym h.origin) where
  place : PathNo → Place
  place p = record { path = p; offset = t.site.offset }

  at : Place → Origin → Token
  at site origin = record { kind = t.kind; text = text_of names t.text; origin = origin; site = site; line = t.line; end = t.end; space = t.space; first = t.first; joined = t.joined; hide = [] }

-- an open file can be read on in the bytes at its path
pub open_reading : (names : List Text) (files : List KnownFile) (f : OpenFile) (bytes : Text) → IsOpen names files f → bytes_at files f.path ≡ bytes → IsReading names bytes f.reader × (length bytes ≤ 16777216)
open_reading names files f bytes o e =
    let same : o.bytes ≡ bytes = sym (open_bytes names files f o) ∙ e in
    (subst (λ b. IsReading names b f.reader) same o.reading, subst (λ b. length b ≤ 16777216) same o.small)

-- It stays open with other conditionals.
pub ifs_open : (names : List Text) (files : List KnownFile) (f g : OpenFile) → IsOpen names files f → IsOpen names files (record f { open_ifs = g.open_ifs })
ifs_open names files f g o = record {
  bytes = o.bytes;
  found = o.found;
  small = o.small;
  number = o.number;
  known = o.known;
  reading = o.reading;
  reader = o.reader;
  literal = o.literal;
  literal_text = o.literal_text;
  run = o.run;
  line = o.line;
}

-- It stays open, and is read on as before, where one more file is known.
pub open_known : StaysKnown → NumbersItsPath → (names : List Text) (files : List KnownFile) (file : KnownFile) (f : OpenFile) → IsOpen names files f → IsOpen names (files ++ file ∷ []) f
open_known stays numbers names files file f o =
    let found : finding f.path (files ++ file ∷ []) ≡ Present f.number.0 o.bytes = stays f.path files file (λ u. is_known (sym u ∙ o.found)) ∙ o.found in record {
      bytes = o.bytes;
      found = found;
      small = o.small;
      number = (numbers f.path (files ++ file ∷ []) f.number.0 o.bytes found).0;
      known = (numbers f.path (files ++ file ∷ []) f.number.0 o.bytes found).1;
      reading = o.reading;
      reader = o.reader;
      literal = o.literal;
      literal_text = o.literal_text;
      run = o.run;
      line = o.line;
    } where
      is_known : {n : ℕ} {bytes : Text} → ¬ (Unknown ≡ Present n bytes)
      is_known e = cc

pub reading_known : StaysKnown → (names : List Text) (files : List KnownFile) (file : KnownFile) (f : OpenFile) → IsOpen names files f → reading_of names (files ++ file ∷ []) f ≡ reading_of names files f
reading_known stays names files file f o =
    ap (λ b. with_parts f (tokens_of names f.run.items) (tokens_of names f.line.items) (reading names b f.reader)) (ap bytes_of (stays f.path files file (λ u. is_known (sym u ∙ o.found)))) where
      is_known : {n : ℕ} {bytes : Text} → ¬ (Unknown ≡ Present n bytes)
      is_known e = cc
