-- What spelling, reading and the first fault say of each other.
use Rattle.std.proofs.Common.{◌≡◌, ◌≤◌, ◌⊎◌, inl, inr, ℕ, List, ◌∷◌, ◌++◌, length, Result, Ok, Err, refl, sym, ap, ◌∙◌, subst}
use Rattle.rs_model.specs.Data.{Names_data}
use Rattle.rs_model.specs.declared.limits.TheConstants.{MOST_LABELS, MOST_STATES}
use Rattle.rs_model.specs.Data.{Machine_data}
use Rattle.rs_text.specs.declared.faults.TextFault.{TextFault}
use Rattle.rs_text.specs.declared.faults.TextKind.{TextKind}
use Rattle.rs_text.specs.Lexemes.{Lexeme}
use Rattle.rs_text.specs.Lexing.{Lexed}
use Rattle.rs_text.specs.Readings.{Reading, ReadsBy, read_all, last_of}
use Rattle.rs_text.proofs.Judging as judging
use Rattle.rs_text.proofs.Judging.{found, first_of}
use Rattle.rs_text.proofs.Keeping.{tokens}
use Rattle.rs_text.proofs.Nexts.{one_list, are_lexed}
use Rattle.rs_tables.specs.Cuts.{at_end}
use Rattle.rs_tables.specs.Data.{Reader_data}
use Rattle.rs_tables.specs.Machines.{machine_of_table}
use Rattle.rs_tables.specs.Faults.{FaultAt, FirstFault}
use Rattle.rs_text.specs.Kept.{Keeps}
use Rattle.rs_tables.specs.Feeding.{start_of_table, feeding, names_read}
use Rattle.rs_tables.proofs.ReadTables.{machine_read}
use Rattle.rs_tables.specs.Printable.{IsTabled}
use Rattle.rs_tables.specs.Spells.{SpellsTable}
use Rattle.rs_tables.proofs.Judged.{judges, begins, sound, complete}
use Rattle.rs_tables.proofs.Labels.{HasLabels}
use Rattle.rs_tables.proofs.Standings.{stand}
use Rattle.rs_tables.proofs.Writable.{tabled, tree_small}

-- ---- as read_table needs it

pub begins_with : (o : Reader_data) (old : Names_data) (roles labels : List (List ℕ)) → o ≡ start_of_table (record { roles = roles; labels = labels }) → roles ≡ old.roles → labels ≡ old.labels
    → o ≡ start_of_table old
begins_with o old roles labels e r l = e ∙ ap (λ z. start_of_table (record { roles = z; labels = labels })) r ∙ ap (λ z. start_of_table (record { roles = old.roles; labels = z })) l

abbrev names : List (List ℕ) → List (List ℕ) → Names_data
names roles labels = record { roles = roles; labels = labels }

pub reads_spelt : (old new : Names_data) (bytes : List ℕ) (at : ℕ) (o r : Reader_data) (until : ℕ) (d : Machine_data) → o ≡ start_of_table old → at ≤ length bytes
    → length old.labels ≤ MOST_LABELS → ReadsBy feeding o bytes at (Ok (record { reader = r; until = until }))
    → new.roles ≡ old.roles → Keeps (names_read o) (names_read r) → new.labels ≡ r.labels → d ≡ machine_read r → SpellsTable bytes at old new d until
reads_spelt old new bytes at o r until d e within few h roles kept labels p =
    let same : new ≡ names_read r = ap (λ z. names z new.labels) (roles ∙ ap (λ z. z.roles) (sym e) ∙ sym kept.roles) ∙ ap (λ z. names r.roles z) labels in
    let reads : ReadsBy feeding (start_of_table old) bytes at (Ok (record { reader = r; until = until }))
    = subst (λ (z : Reader_data). ReadsBy feeding z bytes at (Ok (record { reader = r; until = until }))) e h in
    let t = tokens bytes at within in
    subst (λ (z : Names_data). SpellsTable bytes at old z d until) (sym same)
    (subst (λ (z : Machine_data). SpellsTable bytes at old (names_read r) z until) (sym p) (sound old few bytes at t.0 (record { reader = r; until = until }) t.1 (reads t.0 t.1)))

pub spelt_tabled : (old new : Names_data) (bytes : List ℕ) (at until : ℕ) (d : Machine_data) → SpellsTable bytes at old new d until → IsTabled new d
spelt_tabled old new bytes at until d s =
    subst (λ (z : Machine_data). IsTabled new z) (sym s.machine_is)
    (subst (λ (z : Names_data). IsTabled z (machine_of_table z s.tree)) (sym s.names_are)
    (tabled old s.tree s.fits (tree_small bytes at s.lexemes s.behind s.others s.tree s.tokens s.spelt)))

pub spelt_bounded : (old new : Names_data) (bytes : List ℕ) (at until : ℕ) (d : Machine_data) → SpellsTable bytes at old new d until → length d.states ≤ MOST_STATES
spelt_bounded old new bytes at until d s = (spelt_tabled old new bytes at until d s).bounded

-- ---- laws

abbrev good : Reader_data → ℕ → Result (Reading Reader_data) TextFault
good r until = Ok (record { reader = r; until = until })

abbrev read_to : Reader_data → ℕ → Reading Reader_data
read_to r until = record { reader = r; until = until }

abbrev fine : Reading Reader_data → Result (Reading Reader_data) TextFault
fine x = Ok x

one_reading : (x y : Reading Reader_data) → fine x ≡ fine y → x ≡ y
one_reading x y h = cc

good_is : (r d : Reader_data) (n m : ℕ) → good r n ≡ good d m → (r ≡ d) × (n ≡ m)
good_is r d n m h =
    let same : read_to r n ≡ read_to d m = one_reading (read_to r n) (read_to d m) h in
    (ap (λ (z : Reading Reader_data). z.reader) same, ap (λ (z : Reading Reader_data). z.until) same)

reader_spells : (old new : Names_data) (bytes : List ℕ) (at until : ℕ) (d : Machine_data) (s : SpellsTable bytes at old new d until)
    → (names_read (stand old (at_end s.tree)) ≡ new) × (machine_read (stand old (at_end s.tree)) ≡ d)
reader_spells old new bytes at until d s = (sym s.names_are, ap (λ z. machine_of_table z s.tree) (sym s.names_are) ∙ sym s.machine_is)

-- what is spelt is read, whichever list of its tokens is taken
pub spelt_reads : (old new : Names_data) (bytes : List ℕ) (at until : ℕ) (d : Machine_data) (s : SpellsTable bytes at old new d until)
    → ReadsBy feeding (start_of_table old) bytes at (good (stand old (at_end s.tree)) until)
spelt_reads old new bytes at until d s ls lexed =
    ap (λ z. read_all feeding (Ok (start_of_table old)) z) (one_list bytes ls (s.lexemes ++ s.behind ∷ s.others) at lexed (are_lexed bytes (s.lexemes ++ s.behind ∷ s.others) at s.tokens))
    ∙ complete old new bytes at d until s ∙ ap (λ z. good (stand old (at_end s.tree)) z) (sym s.goes_on)

-- a text spells one machine at most
pub one_spelling : (old new other : Names_data) (bytes : List ℕ) (at until stop : ℕ) (d e : Machine_data) → SpellsTable bytes at old new d until → SpellsTable bytes at old other e stop
    → (new ≡ other) × (d ≡ e) × (until ≡ stop)
one_spelling old new other bytes at until stop d e s k =
    let ls : List Lexeme = s.lexemes ++ s.behind ∷ s.others in
    let same = good_is (stand old (at_end s.tree)) (stand old (at_end k.tree)) until stop
    (sym (spelt_reads old new bytes at until d s ls (are_lexed bytes ls at s.tokens)) ∙ spelt_reads old other bytes at stop e k ls (are_lexed bytes ls at s.tokens)) in
    let a = reader_spells old new bytes at until d s in
    let b = reader_spells old other bytes at stop e k in
    (sym a.0 ∙ ap names_read same.0 ∙ b.0, sym a.1 ∙ ap machine_read same.0 ∙ b.1, same.1)

-- and has one first fault at most
pub one_fault : (old : Names_data) → length old.labels ≤ MOST_LABELS → (bytes : List ℕ) (at : ℕ) (j k : TextKind) (n i : ℕ) → FirstFault old bytes at j n → FirstFault old bytes at k i
    → (j ≡ k) × (n ≡ i)
one_fault old few bytes at j k n i f g = judging.one_fault (judges old) (start_of_table old) bytes at j k n i (begins old few) f g

abbrev SpeltOrFaulty : (old : Names_data) → List ℕ → ℕ → Type 0
SpeltOrFaulty old bytes at =
    ((new : Names_data) × (d : Machine_data) × (until : ℕ) × SpellsTable bytes at old new d until) ⊎ ((kind : TextKind) × (offset : ℕ) × FirstFault old bytes at kind offset)

by_reading : (old : Names_data) → length old.labels ≤ MOST_LABELS → (bytes : List ℕ) (at : ℕ) (ls : List Lexeme) (x : Result (Reading Reader_data) TextFault) → Lexed bytes at ls
    → read_all feeding (Ok (start_of_table old)) ls ≡ x → SpeltOrFaulty old bytes at
by_reading old few bytes at ls (Ok x) lexed e = inl (names_read x.reader, machine_read x.reader, x.until, sound old few bytes at ls x lexed e)
by_reading old few bytes at ls (Err f) lexed e =
    inr (
      f.kind,
      f.at,
      first_of (FaultAt old) (HasLabels old) bytes at ls f (last_of feeding (start_of_table old) (Ok (start_of_table old)) ls) lexed
          (found (judges old) (start_of_table old) bytes at ls f (begins old few) lexed e),
    )

-- it spells a machine or has a fault
pub spelt_or_faulty : (old : Names_data) (bytes : List ℕ) (at : ℕ) → length old.labels ≤ MOST_LABELS → at ≤ length bytes → SpeltOrFaulty old bytes at
spelt_or_faulty old bytes at few within = let t = tokens bytes at within in by_reading old few bytes at t.0 (read_all feeding (Ok (start_of_table old)) t.0) t.1 refl

-- not both
pub spelt_no_fault : (old new : Names_data) (bytes : List ℕ) (at until : ℕ) (d : Machine_data) (k : TextKind) (offset : ℕ) → length old.labels ≤ MOST_LABELS
    → SpellsTable bytes at old new d until → FirstFault old bytes at k offset → ⊥
spelt_no_fault old new bytes at until d k offset few s f =
    judging.no_fault (judges old) (start_of_table old) bytes at (record { reader = stand old (at_end s.tree); until = until }) k offset f (begins old few)
    (spelt_reads old new bytes at until d s (f.before ++ f.token ∷ f.others) f.lexed)
