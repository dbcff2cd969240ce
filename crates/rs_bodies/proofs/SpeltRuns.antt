-- A text is read as a part exactly where it spells it.
use Rattle.std.proofs.Common.{◌≡◌, ℕ, ◌≤◌, List, [], ◌∷◌, ◌++◌, length, Bool, true, Result, Ok, Err, refl, sym, ap, ◌∙◌, subst}
use Rattle.rs_model.specs.Data.{Names_data}
use Rattle.rs_text.specs.declared.faults.TextFault.{TextFault}
use Rattle.rs_text.specs.declared.faults.Wanted.TheVariants as wanted
use Rattle.rs_bodies.specs.declared.reading.Frame.{Frame}
use Rattle.rs_bodies.specs.declared.reading.Mode.{Mode}
use Rattle.rs_bodies.specs.declared.reading.Mode.TheVariants as mode
use Rattle.rs_bodies.specs.declared.dialects.Dialect.{Dialect}
use Rattle.rs_bodies.specs.Data.{Spelling_data, Reader_data}
use Rattle.rs_text.specs.Lexemes.{Lexeme, signs_of}
use Rattle.rs_text.specs.Lexing.{Lexed}
use Rattle.rs_text.specs.Signs.{Sign, broken}
use Rattle.rs_text.proofs.Nexts.{exists, are_lexed, lexed_are, one_list}
use Rattle.rs_bodies.specs.Drafts.{spelling_read, names_read}
use Rattle.rs_bodies.specs.Spells.{Tree, tree_signs, Fits}
use Rattle.rs_bodies.specs.Spellings.{Spells}
use Rattle.rs_bodies.specs.Trees.{ends_by_name, ends_a_name}
use Rattle.rs_bodies.specs.Cuts.{PartCut}
use Rattle.rs_bodies.specs.Feeding.{Fed, PartAnswer, start_of_part, feed_at, feed_next, is_read, answer_of_reading, ReadsAs, feeding}
use Rattle.rs_bodies.proofs.FaultPlaces.{wanted_by, is_named_of, NamedBy, PlaceAgrees}
use Rattle.rs_bodies.proofs.FirstFaults.{agree}
use Rattle.rs_bodies.proofs.SpeltTrees.{IsRead, tree_exact}
use Rattle.rs_bodies.proofs.SpeltCuts.{whole_tree}
use Rattle.rs_text.proofs.Judging.{Runs, runs, Halt, halt}
use Rattle.rs_bodies.proofs.OneFault.{read_facts, At, judges, begins}
use Rattle.rs_text.specs.Readings.{Reading, expected, feed_sign, read_all}
use Rattle.rs_text.proofs.Leading.{Tells, Exact}

abbrev ok_answer : PartAnswer → Result PartAnswer TextFault
ok_answer x = Ok x

answer_is : (x y : PartAnswer) → ok_answer x ≡ ok_answer y → x ≡ y
answer_is x y h = cc

-- ---- behind a part

behind_of : (d : Reader_data) → is_read d ≡ true → (d.mode ≡ mode.Next) × (d.frames ≡ [])
behind_of d h = read_facts d.mode d.frames h

next_stops : (fs : List Frame) (t : Sign) (at : ℕ) (r : Reader_data) → fs ≡ [] → feed_next fs t at r ≡ expected wanted.PartOrEnd at
next_stops fs t at r h = ap (λ z. feed_next z t at r) h

at_stops : (dia : Dialect) (m : Mode) (t : Sign) (at : ℕ) (n : Lexeme) (r : Reader_data) → m ≡ mode.Next → r.frames ≡ [] → feed_at dia m t at n r ≡ expected wanted.PartOrEnd at
at_stops dia m t at n r e h = ap (λ z. feed_at dia z t at n r) e ∙ next_stops r.frames t at r h

stops : (dia : Dialect) (t : Sign) (at : ℕ) (n : Lexeme) (r : Reader_data) (N : Type 0) (Q : Reader_data → Type 0) → is_read r ≡ true → Tells (feed_sign (feeding dia) t at n r) N Q → N
stops dia (broken k) at n r N Q h x = x
stops dia t at n r N Q h x = let b = behind_of r h in subst (λ (z : Fed). Tells z N Q) (at_stops dia r.mode t at n r b.0 b.1) x

-- ---- a text that is spelt is read

abbrev answer_of : Names_data → Spelling_data → ℕ → PartAnswer
answer_of names spelling until = record { names = names; spelling = spelling; until = until }

-- a text that spells a part is read as it
pub complete : (dia : Dialect) (old : Names_data) (bytes : List ℕ) (at : ℕ) (names : Names_data) (spelling : Spelling_data) (until : ℕ) → Spells dia bytes at old names spelling until
    → ReadsAs dia old bytes at (Ok (record { names = names; spelling = spelling; until = until }))
complete dia old bytes at names spelling until s = λ ls lexed.
    let t : Tree dia = s.tree in
    let N : Type 0 = Fits dia old t → ⊥ in
    let h : Exact (feeding dia) (signs_of s.lexemes) s.behind.sign N (IsRead dia old t) (start_of_part dia old)
    = subst (λ (z : List Sign). Exact (feeding dia) z s.behind.sign N (IsRead dia old t) (start_of_part dia old)) (sym s.spelt) (tree_exact dia old t s.behind.sign s.settled) in
    let g : Runs (feeding dia) (Ok (start_of_part dia old)) (s.lexemes ++ s.behind ∷ s.others) s.behind (IsRead dia old t)
    = runs (feeding dia) (stops dia) s.lexemes s.behind s.others (start_of_part dia old) N (IsRead dia old t) (λ k. k s.fits) (λ d k. k.read) h in
    let d : Reader_data = g.0 in
    let read : IsRead dia old t d = g.1.0 in
    ap (λ z. answer_of_reading (read_all (feeding dia) (Ok (start_of_part dia old)) z))
    (one_list bytes ls (s.lexemes ++ s.behind ∷ s.others) at lexed (are_lexed bytes (s.lexemes ++ s.behind ∷ s.others) at s.tokens)) ∙ ap answer_of_reading g.1.1
    ∙ ap (λ z. Ok (answer_of z (spelling_read d) s.behind.from)) (read.names ∙ sym s.names_are) ∙ ap (λ z. Ok (answer_of names z s.behind.from)) (read.spelling ∙ sym s.meaning_is)
    ∙ ap (λ z. Ok (answer_of names spelling z)) (sym s.goes_on)

-- ---- a text that is read is spelt

named_at : (dia : Dialect) (m : Mode) (u : Sign) (b : Bool) (d : Reader_data) → m ≡ mode.Next → NamedBy dia m u b d → b ≡ true → ends_a_name dia u ≡ true
named_at dia m u b d e h = subst (λ (z : Mode). NamedBy dia z u b d) e h

wanted_next : (dia : Dialect) (d : Reader_data) → is_read d ≡ true → wanted_by dia d.mode d.frames ≡ wanted.PartOrEnd
wanted_next dia d h = let b = behind_of d h in ap (λ z. wanted_by dia z d.frames) b.0 ∙ ap (λ z. wanted_by dia mode.Next z) b.1

read_spells : (dia : Dialect) (old : Names_data) (bytes : List ℕ) (at : ℕ) (ls : List Lexeme) (x : Reading Reader_data) → Lexed bytes at ls → Halt (feeding dia) (At dia old) [] ls x
    → Spells dia bytes at old (names_read x.reader) (spelling_read x.reader) x.until
read_spells dia old bytes at ls x lexed s =
    let d : Reader_data = x.reader in
    let c : PartCut dia = s.stands.1.0 in
    let a : PlaceAgrees dia old c s.l.sign d = agree dia old (signs_of s.xs) s.l.sign d s.stands.0 c s.stands.1.1 in
    let w = whole_tree dia c (sym a.wanted ∙ wanted_next dia d s.read) in
    let t : Tree dia = w.0 in
    let signs : tree_signs dia t ≡ signs_of s.xs = w.1 ∙ s.stands.1.1 in
    let settled : ends_by_name dia t.body ≡ true → ends_a_name dia s.l.sign ≡ true = λ e. named_at dia d.mode s.l.sign (is_named_of dia c) d (behind_of d s.read).0 a.named (sym w.2 ∙ e) in
    let read : IsRead dia old t d
    = s.stands.0 (λ k. Fits dia old t → ⊥) (IsRead dia old t)
    (subst (λ (z : List Sign). Exact (feeding dia) z s.l.sign (Fits dia old t → ⊥) (IsRead dia old t) (start_of_part dia old)) signs (tree_exact dia old t s.l.sign settled)) in
    record {
      tree = t;
      lexemes = s.xs;
      behind = s.l;
      others = s.others;
      tokens = lexed_are bytes (s.xs ++ s.l ∷ s.others) at (subst (λ (z : List Lexeme). Lexed bytes at z) s.split lexed);
      spelt = sym signs;
      settled = settled;
      fits = read.fits;
      names_are = read.names;
      meaning_is = read.spelling;
      goes_on = s.until;
    }

answered_ok : (y : Result (Reading Reader_data) TextFault) (a : PartAnswer) → answer_of_reading y ≡ Ok a
    → (x : Reading Reader_data) × (y ≡ Ok x) × (record { names = names_read x.reader; spelling = spelling_read x.reader; until = x.until } ≡ a)
answered_ok (Ok x) a h = (x, refl, answer_is (record { names = names_read x.reader; spelling = spelling_read x.reader; until = x.until }) a h)
answered_ok (Err e) a h = cc

read_all_spells : (dia : Dialect) (old : Names_data) (bytes : List ℕ) (at : ℕ) (ls : List Lexeme) (x : Reading Reader_data) → Lexed bytes at ls
    → read_all (feeding dia) (Ok (start_of_part dia old)) ls ≡ Ok x → Spells dia bytes at old (names_read x.reader) (spelling_read x.reader) x.until
read_all_spells dia old bytes at [] x lexed h = absurd lexed
read_all_spells dia old bytes at (l ∷ ls) x lexed h = read_spells dia old bytes at (l ∷ ls) x lexed (halt (judges dia old) (start_of_part dia old) bytes at (l ∷ ls) x (begins dia old) lexed h)

-- a text that is read as a part spells it
pub sound : (dia : Dialect) (old : Names_data) (bytes : List ℕ) (at : ℕ) (a : PartAnswer) → at ≤ length bytes → ReadsAs dia old bytes at (Ok a) → Spells dia bytes at old a.names a.spelling a.until
sound dia old bytes at a within h =
    let e = exists bytes at within in
    let lexed : Lexed bytes at e.0 = are_lexed bytes e.0 at e.1 in
    let y = answered_ok (read_all (feeding dia) (Ok (start_of_part dia old)) e.0) a (h e.0 lexed) in
    subst (λ (z : PartAnswer). Spells dia bytes at old z.names z.spelling z.until) y.2 (read_all_spells dia old bytes at e.0 y.0 lexed y.1)
