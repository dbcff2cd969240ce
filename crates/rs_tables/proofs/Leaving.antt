-- The names that a refusal leaves.
use Rattle.std.proofs.Common.{◌≡◌, ℕ, ◌≤◌, inl, inr, List, [], ◌∷◌, ◌++◌, length, Err, Ok, ap, sym, ◌∙◌, subst}
use Rattle.rs_model.specs.Data.{Names_data}
use Rattle.rs_model.specs.declared.limits.TheConstants.{MOST_LABELS}
use Rattle.rs_text.specs.declared.faults.TextFault.{TextFault}
use Rattle.rs_text.specs.declared.reading.Stop.{Stop}
use Rattle.rs_text.specs.declared.reading.Stop.TheVariants as stops
use Rattle.rs_text.specs.declared.faults.TextKind.{TextKind}
use Rattle.rs_text.specs.Lexemes.{Lexeme, signs_of}
use Rattle.rs_text.specs.Lexing.{Lexed}
use Rattle.rs_text.specs.Readings.{AreNamesBehind, Leaves, StopsBy, fault_of_stop, last_of, read_all}
use Rattle.rs_text.proofs.Judging.{found, first_of, same_place}
use Rattle.rs_text.proofs.Keeping.{tokens}
use Rattle.rs_text.proofs.Nexts.{one_list}
use Rattle.rs_tables.specs.Data.{Reader_data}
use Rattle.rs_bodies.specs.Faults.{names_behind}
use Rattle.rs_tables.specs.Faults.{FaultAt, FirstFault, LeavesLabels, LeavesNames}
use Rattle.rs_tables.specs.Feeding.{feeding, names_read, start_of_table}
use Rattle.rs_tables.proofs.Judged.{judges, begins}
use Rattle.rs_tables.proofs.Labels.{HasLabels, follows_first, follows_all}

abbrev with : Names_data → List (List ℕ) → Names_data
with old labels = record { roles = old.roles; labels = labels }

-- a fault leaves the labels of the tokens before it
fault_leaves : (old : Names_data) (labels : List (List ℕ)) (bytes : List ℕ) (at : ℕ) (ls : List Lexeme) (e : TextFault) → length old.labels ≤ MOST_LABELS → Lexed bytes at ls
    → read_all feeding (Ok (start_of_table old)) ls ≡ Err e → (last_of feeding (start_of_table old) (Ok (start_of_table old)) ls).labels ≡ labels
    → LeavesNames old (with old labels) bytes at e.kind e.at
fault_leaves old labels bytes at ls e few h f same =
    let x = found (judges old) (start_of_table old) bytes at ls e (begins old few) h f in (
      first_of (FaultAt old) (HasLabels old) bytes at ls e (last_of feeding (start_of_table old) (Ok (start_of_table old)) ls) h x,
      ap (λ z. with old z) (sym same ∙ x.left),
    )

stops_with : (s : Stop) (old found : Names_data) (o : Reader_data) (bytes : List ℕ) (at : ℕ) (e : TextFault) → e ≡ fault_of_stop s at → o ≡ start_of_table old → length old.labels ≤ MOST_LABELS → at ≤ length bytes
    → StopsBy feeding s o bytes at → Leaves feeding names_read s o bytes at found → AreNamesBehind feeding names_read o bytes at found → LeavesLabels old (with old found.labels) bytes at e.kind e.at
stops_with stops.Memory old found o bytes at e same first few within h left b =
    let c = subst (λ (z : Reader_data). AreNamesBehind feeding names_read z bytes at found) first b in
    inl (
      ap (λ (z : TextFault). z.kind) same,
      record {
        before = c.before;
        others = c.others;
        lexed = c.lexed;
        names_are = ap (λ z. with old z) (ap (λ z. z.labels) c.names_are ∙ (follows_all old [] c.before c.others (start_of_table old) c.reader c.lead (follows_first old)).labels);
      },
    )
stops_with (stops.Fault f) old found o bytes at e same first few within h left b =
    let t = tokens bytes at within in
    let reads = subst (λ (z : Reader_data). StopsBy feeding (stops.Fault f) z bytes at) first h in
    let names_are = subst (λ (z : Reader_data). Leaves feeding names_read (stops.Fault f) z bytes at found) first left in
    subst (λ (z : TextFault). LeavesLabels old (with old found.labels) bytes at z.kind z.at) (sym same)
    (inr (fault_leaves old found.labels bytes at t.0 f few t.1 (reads t.0 t.1) (ap (λ z. z.labels) (names_are t.0 t.1))))

-- what the reader leaves where it stops: the roles stay, and the labels are its own
pub leaves : (s : Stop) (old new found : Names_data) (o : Reader_data) (bytes : List ℕ) (at : ℕ) (e : TextFault) → e ≡ fault_of_stop s at → o ≡ start_of_table old → length old.labels ≤ MOST_LABELS
    → at ≤ length bytes → StopsBy feeding s o bytes at → Leaves feeding names_read s o bytes at found → AreNamesBehind feeding names_read o bytes at found → new.roles ≡ old.roles
    → new.labels ≡ found.labels → LeavesLabels old new bytes at e.kind e.at
leaves s old new found o bytes at e same first few within h left b roles labels =
    subst (λ (z : Names_data). LeavesLabels old z bytes at e.kind e.at) (ap (λ z. with old z) (sym labels) ∙ ap (λ z. record { roles = z; labels = new.labels }) (sym roles))
    (stops_with s old found o bytes at e same first few within h left b)

-- a fault leaves one list of names
pub one_left : (old new other : Names_data) (bytes : List ℕ) (at : ℕ) (j k : TextKind) (n o : ℕ) → LeavesNames old new bytes at j n → LeavesNames old other bytes at k o → new ≡ other
one_left old new other bytes at j k n o x y =
    let f : FirstFault old bytes at j n = x.0 in
    let g : FirstFault old bytes at k o = y.0 in
    let same = same_place (FaultAt old) f.before g.before f.token g.token f.others g.others [] j k
    (one_list bytes (f.before ++ f.token ∷ f.others) (g.before ++ g.token ∷ g.others) at f.lexed g.lexed) f.fault f.clear g.fault g.clear in
    x.1 ∙ ap (λ z. names_behind old (signs_of z)) same.0 ∙ sym y.1
