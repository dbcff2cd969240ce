-- What the reader of a part reads, its dialect's reader reads.
use Rattle.std.proofs.Common.{◌≡◌, ◌∙◌, ℕ, ◌≤◌, List, [], ◌∷◌, ◌++◌, length, Bool, true, false, if◌then◌else◌, Result, Ok, Err, IfOk, refl, sym, ap, subst, append_assoc}
use Rattle.std.proofs.lemmas.List.{append-nil}
use Rattle.rs_model.specs.Data.{Names_data}
use Rattle.rs_text.specs.declared.faults.TextFault.{TextFault}
use Rattle.rs_text.specs.declared.reading.Stop.{Stop}
use Rattle.rs_text.specs.declared.reading.Stop.TheVariants as stops
use Rattle.rs_text.specs.Lexemes.{Lexeme, signs_of}
use Rattle.rs_text.specs.Readings as readings
use Rattle.rs_text.specs.Readings.{AreNamesBehind, Fails, Lead, Reading, ReadsBy, StopsBy, feed_sign, last_of, next_lexeme_of, read_all}
use Rattle.rs_text.specs.Signs.{Sign, broken}
use Rattle.rs_text.specs.Sound.{IsSound}
use Rattle.rs_text.proofs.Keeping.{KeptIn, kept, tokens}
use Rattle.rs_text.proofs.Taking.{kept_behind}
use Rattle.rs_bodies.specs.declared.dialects.Dialect.{Dialect}
use Rattle.rs_bodies.specs.declared.dialects.Dialect.TheVariants.{Talks, Acts}
use Rattle.rs_bodies.specs.declared.parts.PartReader.{PartReader}
use Rattle.rs_bodies.specs.Data.{Reader_data}
use Rattle.rs_bodies.specs.Dialects.{most}
use Rattle.rs_bodies.specs.Drafts.{names_read}
use Rattle.rs_bodies.specs.Faults.{KeepsBy}
use Rattle.rs_bodies.specs.Feeding.{Fed, Feeds, HasLabels, HasRead, HasStopped, Leaves, feeding, is_read, start_of_part}
use Rattle.rs_bodies.specs.PartFeeding.{feeding_part, in_dialect, names_of_part}
use Rattle.rs_bodies.proofs.Labels.{Follows, follows_first, follows_on}
use Rattle.rs_bodies.proofs.Sounding.{Kept, kept_each, kept_first, kept_keeps, kept_sound}

abbrev in_reading : Dialect → Result (Reading Reader_data) TextFault → Result (Reading PartReader) TextFault
in_reading d (Err e) = Err e
in_reading d (Ok x) = Ok (record { reader = record { dialect = d; reader = x.reader }; until = x.until })

-- a token leads the reader of a part where it leads the dialect's
pub fed_same : (t : Sign) (at : ℕ) (n : Lexeme) (p : PartReader) → feed_sign feeding_part t at n p ≡ in_dialect p.dialect (feed_sign (feeding p.dialect) t at n p.reader)
fed_same (broken k) at n p = refl
fed_same t at n p = refl

part_of : (d : Dialect) (x : Fed) (p : PartReader) → in_dialect d x ≡ Ok p → (p.dialect ≡ d) × (x ≡ Ok p.reader)
part_of d (Err e) p h = absurd (cc h)
part_of d (Ok r) p h = let e : p ≡ record { dialect = d; reader = r } = cc in (ap (λ z. z.dialect) e, ap (λ z. Ok z.reader) (sym e))

either_same : (d : Dialect) (c : Bool) (x y : Result (Reading PartReader) TextFault) (u v : Result (Reading Reader_data) TextFault) → x ≡ in_reading d u → y ≡ in_reading d v
    → (if c then x else y) ≡ in_reading d (if c then u else v)
either_same d true x y u v e f = e
either_same d false x y u v e f = f

read_same : (d : Dialect) (ls : List Lexeme) (x : Fed) → read_all feeding_part (in_dialect d x) ls ≡ in_reading d (read_all (feeding d) x ls)
read_same d [] (Err e) = refl
read_same d (l ∷ ls) (Err e) = refl
read_same d [] (Ok r) = refl
read_same d (l ∷ ls) (Ok r) =
    let p : PartReader = record { dialect = d; reader = r } in
    either_same d (is_read r) (Ok (record { reader = p; until = l.from })) (read_all feeding_part (feed_sign feeding_part l.sign l.from (next_lexeme_of l ls) p) ls)
    (Ok (record { reader = r; until = l.from })) (read_all (feeding d) (feed_sign (feeding d) l.sign l.from (next_lexeme_of l ls) r) ls)
    refl (ap (λ z. read_all feeding_part z ls) (fed_same l.sign l.from (next_lexeme_of l ls) p) ∙ read_same d ls (feed_sign (feeding d) l.sign l.from (next_lexeme_of l ls) r))

last_either : (d : Dialect) (c : Bool) (x y : PartReader) (u v : Reader_data) → x ≡ record { dialect = d; reader = u } → y ≡ record { dialect = d; reader = v }
    → (if c then x else y) ≡ record { dialect = d; reader = if c then u else v }
last_either d true x y u v e f = e
last_either d false x y u v e f = f

last_same : (d : Dialect) (ls : List Lexeme) (o : Reader_data) (x : Fed) → last_of feeding_part (record { dialect = d; reader = o }) (in_dialect d x) ls ≡ record { dialect = d; reader = last_of (feeding d) o x ls }
last_same d [] o (Err e) = refl
last_same d (l ∷ ls) o (Err e) = refl
last_same d [] o (Ok r) = refl
last_same d (l ∷ ls) o (Ok r) =
    let p : PartReader = record { dialect = d; reader = r } in
    last_either d (is_read r) p (last_of feeding_part p (feed_sign feeding_part l.sign l.from (next_lexeme_of l ls) p) ls)
    r (last_of (feeding d) r (feed_sign (feeding d) l.sign l.from (next_lexeme_of l ls) r) ls)
    refl (ap (λ z. last_of feeding_part p z ls) (fed_same l.sign l.from (next_lexeme_of l ls) p) ∙ last_same d ls r (feed_sign (feeding d) l.sign l.from (next_lexeme_of l ls) r))

-- the same tokens lead the dialect's reader on
leads_same : (d : Dialect) (these others : List Lexeme) (o p : PartReader) → o.dialect ≡ d → Lead feeding_part o these others p → Lead (feeding d) o.reader these others p.reader
leads_same d [] others o p same e = ap (λ z. z.reader) e
leads_same d (l ∷ ls) others o p same x =
    let fed = part_of o.dialect (feed_sign (feeding o.dialect) l.sign l.from (next_lexeme_of l (ls ++ others)) o.reader) x.0 (sym (fed_same l.sign l.from (next_lexeme_of l (ls ++ others)) o) ∙ x.1) in (
      x.0.reader,
      ap (λ z. feed_sign (feeding z) l.sign l.from (next_lexeme_of l (ls ++ others)) o.reader) (sym same) ∙ fed.1,
      leads_same d ls others x.0 p (fed.0 ∙ same) x.2,
    )

-- so what is known of the names behind first tokens holds of the dialect's reader
abbrev names_same : (o : PartReader) (bytes : List ℕ) (at : ℕ) (found : Names_data) → AreNamesBehind feeding_part names_of_part o bytes at found → AreNamesBehind (feeding o.dialect) names_read o.reader bytes at found
names_same o bytes at found b = record { before = b.before; others = b.others; lexed = b.lexed; reader = b.reader.reader; lead = leads_same o.dialect b.before b.others o b.reader refl b.lead; names_are = b.names_are }

-- ---- a step

pub fails_same : (d : Dialect) (s : Stop) (x : Fed) → Fails s x → Fails s (in_dialect d x)
fails_same d stops.Memory x h = tt
fails_same d (stops.Fault f) x h = ap (in_dialect d) h

feeds_in : (d : Dialect) (s : Result (Unit {0}) Stop) (x : Fed) (old new : Reader_data) → Feeds s x old new
    → readings.Feeds names_of_part s (in_dialect d x) (record { dialect = d; reader = old }) (record { dialect = d; reader = new })
feeds_in d (Ok done) x old new h = ap (in_dialect d) h
feeds_in d (Err s) x old new h = (fails_same d s x h.0, h.1)

-- a step of the dialect's reader is one of the part's
pub feeds_part : (d : Dialect) (s : Result (Unit {0}) Stop) (t : Sign) (at : ℕ) (n : Lexeme) (old new : Reader_data) → Feeds s (feed_sign (feeding d) t at n old) old new
    → readings.Feeds names_of_part s (feed_sign feeding_part t at n (record { dialect = d; reader = old })) (record { dialect = d; reader = old }) (record { dialect = d; reader = new })
feeds_part d s t at n old new h =
    subst (λ (z : Result PartReader TextFault). readings.Feeds names_of_part s z (record { dialect = d; reader = old }) (record { dialect = d; reader = new }))
    (sym (fed_same t at n (record { dialect = d; reader = old }))) (feeds_in d s (feed_sign (feeding d) t at n old) old new h)

-- ---- the whole

back_ok : (d : Dialect) (x : Result (Reading Reader_data) TextFault) (z : Reading PartReader) → in_reading d x ≡ Ok z → x ≡ Ok (record { reader = z.reader.reader; until = z.until })
back_ok d (Err e) z h = absurd (cc h)
back_ok d (Ok x) z h =
    let e : z ≡ record { reader = record { dialect = d; reader = x.reader }; until = x.until } = cc in
    ap (λ (k : Reading PartReader). Ok (record { reader = k.reader.reader; until = k.until })) (sym e)

back_err : (d : Dialect) (x : Result (Reading Reader_data) TextFault) (f : TextFault) → in_reading d x ≡ Err f → x ≡ Err f
back_err d (Err e) f h = let k : e ≡ f = cc in ap Err k
back_err d (Ok x) f h = absurd (cc h)

-- no more heads than there may be
few_heads : (o : PartReader) (bytes : List ℕ) (at until : ℕ) (r : Reader_data) → at ≤ length bytes → o.reader ≡ start_of_part o.dialect (names_read o.reader) → IsSound (names_read o.reader)
    → ReadsBy (feeding o.dialect) o.reader bytes at (Ok (record { reader = r; until = until })) → length r.drafts ≤ most o.dialect
few_heads o bytes at until r within begun s reads =
    let t = tokens bytes at within in
    let P : Reader_data → Type 0 = Kept o.dialect (names_read o.reader) in
    let k : P r = subst (λ (z : Result (Reading Reader_data) TextFault). IfOk z (KeptIn P)) (reads t.0 t.1)
    (kept (feeding o.dialect) P (kept_each o.dialect (names_read o.reader)) o.reader (kept_first o.dialect o.reader begun s) bytes at t.0 t.1) in
    k.0.1

pub has_read : (o p : PartReader) (bytes : List ℕ) (at until : ℕ) → at ≤ length bytes → o.reader ≡ start_of_part o.dialect (names_read o.reader) → IsSound (names_read o.reader)
    → ReadsBy feeding_part o bytes at (Ok (record { reader = p; until = until })) → until ≤ length bytes → HasRead o.dialect bytes at o.reader p.reader until
has_read o p bytes at until within begun s h below =
    let reads : ReadsBy (feeding o.dialect) o.reader bytes at (Ok (record { reader = p.reader; until = until }))
    = λ ls lexed. back_ok o.dialect (read_all (feeding o.dialect) (Ok o.reader) ls) (record { reader = p; until = until }) (sym (read_same o.dialect ls (Ok o.reader)) ∙ h ls lexed) in
    record { reads = reads; bounded = few_heads o bytes at until p.reader within begun s reads; within = below }

follows_all : (old : Names_data) (xs : List Sign) (these others : List Lexeme) (r d : Reader_data) → Lead (feeding Acts) r these others d → Follows old xs r → Follows old (xs ++ signs_of these) d
follows_all old xs [] others r d e h = subst (λ (z : List Sign). Follows old z d) (sym (append-nil xs)) (subst (λ (z : Reader_data). Follows old xs z) e h)
follows_all old xs (l ∷ ls) others r d x h =
    subst (λ (z : List Sign). Follows old z d) (append_assoc xs (l.sign ∷ []) (signs_of ls))
    (follows_all old (xs ++ l.sign ∷ []) ls others x.0 d x.2 (follows_on old xs l.sign l.from (next_lexeme_of l (ls ++ others)) r x.0 h x.1))

has_labels_by : (d : Dialect) (o : Reader_data) (bytes : List ℕ) (at : ℕ) (found : Names_data) → o ≡ start_of_part d (names_read o) → AreNamesBehind (feeding d) names_read o bytes at found
    → HasLabels d o.labels found.labels bytes at
has_labels_by Talks o bytes at found begun b = tt
has_labels_by Acts o bytes at found begun b =
    let first : Follows (names_read o) [] o = subst (λ (z : Reader_data). Follows (names_read o) [] z) (sym begun) (follows_first (names_read o)) in
    let all = follows_all (names_read o) [] b.before b.others o b.reader b.lead first in
    (b.before, b.others, b.lexed, ap (λ z. z.labels) b.names_are ∙ all.labels)

pub has_labels : (o : PartReader) (bytes : List ℕ) (at : ℕ) (found : Names_data) → o.reader ≡ start_of_part o.dialect (names_read o.reader) → AreNamesBehind feeding_part names_of_part o bytes at found
    → HasLabels o.dialect o.reader.labels found.labels bytes at
has_labels o bytes at found begun b = has_labels_by o.dialect o.reader bytes at found begun (names_same o bytes at found b)

stops_so : (o : PartReader) (s : Stop) (bytes : List ℕ) (at : ℕ) → StopsBy feeding_part s o bytes at → StopsBy (feeding o.dialect) s o.reader bytes at
stops_so o stops.Memory bytes at h = tt
stops_so o (stops.Fault f) bytes at h = λ ls lexed. back_err o.dialect (read_all (feeding o.dialect) (Ok o.reader) ls) f (sym (read_same o.dialect ls (Ok o.reader)) ∙ h ls lexed)

leaves_so : (o : PartReader) (s : Stop) (bytes : List ℕ) (at : ℕ) (left : Names_data) → readings.Leaves feeding_part names_of_part s o bytes at left → HasLabels o.dialect o.reader.labels left.labels bytes at
    → Leaves o.dialect s o.reader bytes at left.labels
leaves_so o stops.Memory bytes at left h k = k
leaves_so o (stops.Fault f) bytes at left h k = λ ls lexed. ap (λ (z : PartReader). z.reader.labels) (sym (last_same o.dialect ls o.reader (Ok o.reader))) ∙ ap (λ z. z.labels) (h ls lexed)

pub has_stopped : (o p : PartReader) (s : Stop) (bytes : List ℕ) (at : ℕ) → o.reader ≡ start_of_part o.dialect (names_read o.reader) → StopsBy feeding_part s o bytes at
    → readings.Leaves feeding_part names_of_part s o bytes at (names_of_part p) → AreNamesBehind feeding_part names_of_part o bytes at (names_of_part p) → HasStopped o.dialect bytes at o.reader p.reader s
has_stopped o p s bytes at begun h left b = record {
  stops = stops_so o s bytes at h;
  leaves = leaves_so o s bytes at (names_of_part p) left (has_labels o bytes at (names_of_part p) begun b);
}

-- want of memory behind the last token
pub lacks_memory : (o p : PartReader) (bytes : List ℕ) (at : ℕ) → o.reader ≡ start_of_part o.dialect (names_read o.reader) → AreNamesBehind feeding_part names_of_part o bytes at (names_of_part p)
    → HasStopped o.dialect bytes at o.reader p.reader stops.Memory
lacks_memory o p bytes at begun b = has_stopped o p stops.Memory bytes at begun tt tt b

kept_so : (o : PartReader) (bytes : List ℕ) (at : ℕ) (found : Names_data) → o.reader ≡ start_of_part o.dialect (names_read o.reader) → IsSound (names_read o.reader)
    → (b : AreNamesBehind feeding_part names_of_part o bytes at found) → Kept o.dialect (names_read o.reader) b.reader.reader
kept_so o bytes at found begun s b =
    kept_behind (feeding o.dialect) (Kept o.dialect (names_read o.reader)) (kept_each o.dialect (names_read o.reader)) names_read o.reader bytes at found (kept_first o.dialect o.reader begun s)
    (names_same o bytes at found b)

pub sound_behind : (o : PartReader) (bytes : List ℕ) (at : ℕ) (found : Names_data) → o.reader ≡ start_of_part o.dialect (names_read o.reader) → IsSound (names_read o.reader)
    → AreNamesBehind feeding_part names_of_part o bytes at found → IsSound found
sound_behind o bytes at found begun s b = subst IsSound (sym b.names_are) (kept_sound o.dialect (names_read o.reader) b.reader.reader (kept_so o bytes at found begun s b))

pub keeps_behind : (o : PartReader) (bytes : List ℕ) (at : ℕ) (found : Names_data) → o.reader ≡ start_of_part o.dialect (names_read o.reader) → IsSound (names_read o.reader)
    → AreNamesBehind feeding_part names_of_part o bytes at found → KeepsBy o.dialect (names_read o.reader) found
keeps_behind o bytes at found begun s b =
    subst (λ (z : Names_data). KeepsBy o.dialect (names_read o.reader) z) (sym b.names_are) (kept_keeps o.dialect (names_read o.reader) b.reader.reader (kept_so o bytes at found begun s b))
