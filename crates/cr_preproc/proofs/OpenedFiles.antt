-- What the calls of an open file tell and keep.
use Rattle.std.proofs.Common.{◌≡◌, ◌<◌, ◌≤◌, List, [], ◌∷◌, ◌++◌, length, refl, sym, ap, ◌∙◌, subst, Option}
use Rattle.std.specs.List.{AllByRecursion}
use Rattle.cr_base.specs.declared.token.PathNo.{PathNo}
use Rattle.cr_base.specs.declared.token.PpTok.{PpTok}
use Rattle.cr_lex.specs.Lexing.{Lexed, Fault, with_token}
use Rattle.cr_lex.specs.Lexing as lexing
use Rattle.cr_lex.specs.Seen.{seen, IsOf, fault_in}
use Rattle.cr_base.specs.NameTable.{Interns}
use Rattle.cr_macros.specs.Substitution.{in_quotes, escaped}
use Rattle.cr_snapshot.specs.Files.{Present, finding, NumbersItsPath}
use Rattle.std.proofs.lemmas.Option.{slice_get_within, get_or_from_slice_get}
use Rattle.cr_macros.specs.Tokens.{Text, Token, token_of, tokens_of}
use Rattle.cr_snapshot.specs.declared.known.KnownFile.{KnownFile}
use Rattle.cr_expand.specs.HideSets.{Grows}
use Rattle.cr_preproc.specs.declared.open_file.OpenFile.{OpenFile}
use Rattle.cr_preproc.specs.declared.reader.Coming.{Coming}
use Rattle.cr_preproc.specs.declared.reader.Coming.TheVariants as coming
use Rattle.cr_phase4.specs.Lines.{token_in}
use Rattle.cr_preproc.specs.Readers.{IsReading, IsComing, reading}
use Rattle.cr_preproc.specs.Seen.{AreNamed}
use Rattle.cr_preproc.specs.OpenFiles.{reading_of, bytes_at, IsOpen}
use Rattle.cr_preproc.specs.OpenFileSteps.{TellsNext, Takes}
use Rattle.cr_preproc.proofs.OpenLater.{given_later, text_later, with_parts, open_bytes, open_later, line_later, tokens_later, named_of, in_token}

pub tells_next : (names : List Text) (files : List KnownFile) (f : OpenFile) (c : Coming)
    → ((names : List Text) (bytes : Text) → IsReading names bytes f.reader → IsComing names bytes f.reader c)
    → IsOpen names files f → TellsNext (reading_of names files f) c
tells_next names files f coming.Token h o =
    let k = h names o.bytes o.reading in (seen names k.0, k.1, ap (λ b. reading names b f.reader) (open_bytes names files f o) ∙ k.3)
tells_next names files f coming.End h o = ap (λ b. reading names b f.reader) (open_bytes names files f o) ∙ h names o.bytes o.reading
tells_next names files f (coming.Fault x) h o =
    let k = h names o.bytes o.reading in (k.0, ap (λ b. reading names b f.reader) (open_bytes names files f o) ∙ k.1, k.2 ∙ ap (λ n. fault_in n k.0) o.reader)

named_behind : (names : List Text) (xs ys : List PpTok) → AreNamed names xs → AreNamed names ys → AreNamed names (xs ++ ys)
named_behind names [] ys h k = k
named_behind names (x ∷ xs) ys h k = (h.0, named_behind names xs ys h.1 k)

of_behind : (names : List Text) (file : PathNo) (xs : List PpTok) (t : PpTok) → AllByRecursion (IsOf file names) xs → IsOf file names t → AllByRecursion (IsOf file names) (xs ++ t ∷ [])
of_behind names file [] t h k = (k, tt)
of_behind names file (x ∷ xs) t h k = (h.0, of_behind names file xs t h.1 k)

tokens_behind : (names : List Text) (xs : List PpTok) (t : PpTok) → tokens_of names (xs ++ t ∷ []) ≡ tokens_of names xs ++ token_of names [] t ∷ []
tokens_behind names [] t = refl
tokens_behind names (x ∷ xs) t = ap {A = List Token} (λ l. token_of names [] x ∷ l) (tokens_behind names xs t)

-- the present line was put to the run
pub text_open : (names : List Text) (files : List KnownFile) (f g : OpenFile) → g.run.items ≡ f.run.items ++ f.line.items → IsOpen names files f → IsOpen names files (record f { run = g.run })
text_open names files f g e o = record {
  bytes = o.bytes;
  found = o.found;
  small = o.small;
  number = o.number;
  known = o.known;
  reading = o.reading;
  reader = o.reader;
  literal = o.literal;
  literal_text = o.literal_text;
  run = subst (AreNamed names) (sym e) (named_behind names f.run.items f.line.items o.run (named_of names f.number f.line.items o.line));
  line = o.line;
}

same_head : (t u : lexing.Token) (ts us : List lexing.Token) → t ∷ ts ≡ u ∷ us → t ≡ u
same_head t u ts us e = cc

same_tail : (t u : lexing.Token) (ts us : List lexing.Token) → t ∷ ts ≡ u ∷ us → ts ≡ us
same_tail t u ts us e = cc

same_lexed : (a b : Lexed) → a.tokens ≡ b.tokens → a.fault ≡ b.fault → a ≡ b
same_lexed a b e h = ap {A = List lexing.Token} (λ l. record { tokens = l; fault = a.fault }) e ∙ ap {A = Option Fault} (λ n. record { tokens = b.tokens; fault = n }) h

same_rest : (t u : lexing.Token) (a b : Lexed) → with_token t a ≡ with_token u b → (t ≡ u) × (a ≡ b)
same_rest t u a b e = (same_head t u a.tokens b.tokens (ap (λ l. l.tokens) e), same_lexed a b (same_tail t u a.tokens b.tokens (ap (λ l. l.tokens) e)) (ap (λ l. l.fault) e))

-- A token was taken into the present line, where the file is read in the bytes at its path.
module _ (names new : List Text) (files : List KnownFile) (bytes : Text) (f g : OpenFile) (x : PpTok) (grows : Grows names new) (o : IsOpen names files f) (at : bytes_at files f.path ≡ bytes) (is : IsOf f.reader.file names x) (line : g.line.items ≡ f.line.items ++ x ∷ []) where
  of : IsOf f.number names x
  of = subst (λ n. IsOf n names x) o.reader is

  line_of : AllByRecursion (IsOf f.number names) g.line.items
  line_of = subst (AllByRecursion (IsOf f.number names)) (sym line) (of_behind names f.number f.line.items x o.line of)

  pub take_open : IsReading new bytes g.reader → g.reader.file ≡ f.reader.file → IsOpen new files (record f { reader = g.reader; line = g.line })
  take_open reads file = let k = open_later names new files f grows o in record {
    bytes = o.bytes;
    found = o.found;
    small = o.small;
    number = o.number;
    known = o.known;
    reading = subst (λ b. IsReading new b g.reader) (sym at ∙ open_bytes names files f o) reads;
    reader = file ∙ o.reader;
    literal = k.literal;
    literal_text = k.literal_text;
    run = k.run;
    line = line_later names new f.number g.line.items grows line_of;
  }

  tokens_now : (t : lexing.Token) → t ≡ seen names x → tokens_of new g.line.items ≡ tokens_of names f.line.items ++ token_in f.number.0 t ∷ []
  tokens_now t e =
      tokens_later names new g.line.items grows (named_of names f.number g.line.items line_of)
      ∙ ap (tokens_of names) line
      ∙ tokens_behind names f.line.items x
      ∙ ap {A = Token} (λ y. tokens_of names f.line.items ++ y ∷ []) (sym (ap (token_in f.number.0) e ∙ in_token f.number names x of))

  pub take_reads : reading names bytes f.reader ≡ with_token (seen names x) (reading new bytes g.reader) → Takes (reading_of names files f) (reading_of new files (record f { reader = g.reader; line = g.line }))
  take_reads e t rest h =
      let k = same_rest t (seen names x) rest (reading new bytes g.reader) (sym h ∙ ap (λ b. reading names b f.reader) at ∙ e) in
      ap (λ l. with_parts f l (tokens_of new g.line.items) (reading new (bytes_at files f.path) g.reader)) (tokens_later names new f.run.items grows o.run)
      ∙ ap (λ l. with_parts f (tokens_of names f.run.items) l (reading new (bytes_at files f.path) g.reader)) (tokens_now t k.0)
      ∙ ap (λ l. with_parts f (tokens_of names f.run.items) (tokens_of names f.line.items ++ token_in f.number.0 t ∷ []) l) (ap (λ b. reading new b g.reader) at ∙ sym k.1)

-- A file was opened: the table of names took its literal, and then what its reader put there.
pub new_open : (names mid new : List Text) (files : List KnownFile) (bytes : Text) (f : OpenFile)
    → finding f.path files ≡ Present f.number.0 bytes → NumbersItsPath → length bytes ≤ 16777216 → IsReading new bytes f.reader → f.reader.file ≡ f.number
    → Interns names (in_quotes (escaped f.path)) mid f.literal.0 → Grows mid new → f.run.items ≡ [] → f.line.items ≡ [] → IsOpen new files f
new_open names mid new files bytes f found numbers small reads file interns grows run line =
    let within : f.literal.0 < length mid = slice_get_within mid f.literal.0 (in_quotes (escaped f.path)) interns.1 in record {
      bytes = bytes;
      found = found;
      small = small;
      number = (numbers f.path files f.number.0 bytes found).0;
      known = (numbers f.path files f.number.0 bytes found).1;
      reading = reads;
      reader = file;
      literal = given_later mid new f.literal.0 grows within;
      literal_text = text_later mid new f.literal grows within ∙ get_or_from_slice_get mid f.literal.0 (in_quotes (escaped f.path)) [] interns.1;
      run = subst (AreNamed new) (sym run) tt;
      line = subst (AllByRecursion (IsOf f.number new)) (sym line) tt;
    }
