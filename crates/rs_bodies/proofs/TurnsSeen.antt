-- What turns lead a reader to, the tokens of the text lead it to.
use Rattle.std.proofs.Common.{◌∙◌, ℕ, zero, suc, List, Result, Ok, Err, IfOk, IfErr, refl, sym, ap, subst}
use Rattle.rs_model.specs.Data.{Names_data}
use Rattle.rs_text.specs.declared.faults.TextFault.{TextFault}
use Rattle.rs_text.specs.declared.reading.Stop.{Stop}
use Rattle.rs_text.specs.Lexing.{next_lexeme}
use Rattle.rs_text.specs.Readings.{Automaton, Fails, Leaves, StopsAtEnd, StopsBy, feed_sign}
use Rattle.rs_text.proofs.Standing.{Stands, fails_in, goes_on}
use Rattle.rs_text.proofs.Taking.{Came, came_on, left_names}
use Rattle.rs_bodies.specs.declared.dialects.Dialect.{Dialect}
use Rattle.rs_bodies.specs.declared.parts.PartReader.{PartReader}
use Rattle.rs_bodies.specs.Data.{Reader_data}
use Rattle.rs_bodies.specs.Drafts.{names_read}
use Rattle.rs_bodies.specs.Feeding.{feeding}
use Rattle.rs_bodies.specs.PartFeeding.{feeding_part, in_dialect, names_of_part}
use Rattle.rs_bodies.specs.Turns.{Turn, Turns, Passes, Refuses}
use Rattle.rs_bodies.proofs.PartReads.{fails_same, fed_same}

stand_on : {R : Type 0} {a : Automaton R} (s : StopsAtEnd a) (o : R) (bytes : List ℕ) (at count now : ℕ) (r : R) (until : ℕ) (d : R) → Turns a bytes count now r until d → Stands a o bytes at r now
    → Stands a o bytes at d until
stand_on {R} {a} s o bytes at zero now r until d h k = subst (λ (z : ℕ). Stands a o bytes at d z) (sym h.0) (subst (λ (z : R). Stands a o bytes at z now) (sym h.1) k)
stand_on {R} {a} s o bytes at (suc count) now r until d h k =
    let t = h.2 in
    let on : Stands a o bytes at h.1 t.token.until = goes_on s o bytes at now t.token (next_lexeme bytes t.token.until) r h.1 t.token_is refl k t.unread t.fed in
    stand_on s o bytes at count h.0 h.1 until d h.3 (subst (λ (z : ℕ). Stands a o bytes at h.1 z) (sym t.until_is) on)

pub stands_behind : {R : Type 0} {a : Automaton R} (s : StopsAtEnd a) (o : R) (bytes : List ℕ) (at now : ℕ) (r : R) (until : ℕ) (d : R) → Passes a bytes now r until d → Stands a o bytes at r now
    → Stands a o bytes at d until
stands_behind s o bytes at now r until d h k = stand_on s o bytes at h.0 now r until d h.1 k

come_on : {R : Type 0} {a : Automaton R} (s : StopsAtEnd a) (o : R) (bytes : List ℕ) (at count now : ℕ) (r : R) (until : ℕ) (d : R) → Turns a bytes count now r until d → Came a o bytes at r now
    → Came a o bytes at d until
come_on {R} {a} s o bytes at zero now r until d h k = subst (λ (z : ℕ). Came a o bytes at d z) (sym h.0) (subst (λ (z : R). Came a o bytes at z now) (sym h.1) k)
come_on {R} {a} s o bytes at (suc count) now r until d h k =
    let t = h.2 in
    let on : Came a o bytes at h.1 t.token.until = came_on s o bytes at now t.token r h.1 t.token_is t.fed k in
    come_on s o bytes at count h.0 h.1 until d h.3 (subst (λ (z : ℕ). Came a o bytes at h.1 z) (sym t.until_is) on)

pub came_behind : {R : Type 0} {a : Automaton R} (s : StopsAtEnd a) (o : R) (bytes : List ℕ) (at now : ℕ) (r : R) (until : ℕ) (d : R) → Passes a bytes now r until d → Came a o bytes at r now
    → Came a o bytes at d until
came_behind s o bytes at now r until d h k = come_on s o bytes at h.0 now r until d h.1 k

-- ---- turns of the dialect's reader are turns of the part's

abbrev part : Dialect → Reader_data → PartReader
part d r = record { dialect = d; reader = r }

turn_part : (d : Dialect) (bytes : List ℕ) (now : ℕ) (r : Reader_data) (until : ℕ) (q : Reader_data) → Turn (feeding d) bytes now r until q → Turn feeding_part bytes now (part d r) until (part d q)
turn_part d bytes now r until q t = record {
  token = t.token;
  token_is = t.token_is;
  unread = t.unread;
  fed = fed_same t.token.sign t.token.from (next_lexeme bytes t.token.until) (part d r) ∙ ap (in_dialect d) t.fed;
  until_is = t.until_is;
}

turns_part : (d : Dialect) (bytes : List ℕ) (count now : ℕ) (r : Reader_data) (until : ℕ) (q : Reader_data) → Turns (feeding d) bytes count now r until q → Turns feeding_part bytes count now (part d r) until (part d q)
turns_part d bytes zero now r until q h = (h.0, ap (part d) h.1)
turns_part d bytes (suc count) now r until q h = (h.0, part d h.1, turn_part d bytes now r h.0 h.1 h.2, turns_part d bytes count h.0 h.1 until q h.3)

passes_part : (d : Dialect) (bytes : List ℕ) (now : ℕ) (r : Reader_data) (until : ℕ) (q : Reader_data) → Passes (feeding d) bytes now r until q → Passes feeding_part bytes now (part d r) until (part d q)
passes_part d bytes now r until q h = (h.0, turns_part d bytes h.0 now r until q h.1)

refuses_part : (d : Dialect) (s : Stop) (bytes : List ℕ) (now : ℕ) (r left : Reader_data) → Refuses (feeding d) names_read s bytes now r left
    → Refuses feeding_part names_of_part s bytes now (part d r) (part d left)
refuses_part d s bytes now r left x = record {
  token = x.token;
  token_is = x.token_is;
  unread = x.unread;
  fails = subst (λ (z : Result PartReader TextFault). Fails s z) (sym (fed_same x.token.sign x.token.from (next_lexeme bytes x.token.until) (part d r)))
      (fails_same d s (feed_sign (feeding d) x.token.sign x.token.from (next_lexeme bytes x.token.until) r) x.fails);
  names_are = x.names_are;
}

pub passes_if : (d : Dialect) (bytes : List ℕ) (now : ℕ) (r q : Reader_data) (result : Result ℕ Stop) → IfOk result (λ until. Passes (feeding d) bytes now r until q)
    → IfOk result (λ until. Passes feeding_part bytes now (part d r) until (part d q))
passes_if d bytes now r q (Ok until) h = passes_part d bytes now r until q h
passes_if d bytes now r q (Err s) h = tt

pub refuses_if : (d : Dialect) (bytes : List ℕ) (now : ℕ) (r left : Reader_data) (result : Result ℕ Stop) → IfErr result (λ s. Refuses (feeding d) names_read s bytes now r left)
    → IfErr result (λ s. Refuses feeding_part names_of_part s bytes now (part d r) (part d left))
refuses_if d bytes now r left (Ok until) h = tt
refuses_if d bytes now r left (Err s) h = refuses_part d s bytes now r left h

-- ---- a refusal is one of the whole reading

pub fails_behind : {R : Type 0} {a : Automaton R} (z : StopsAtEnd a) (names : R → Names_data) (o : R) (bytes : List ℕ) (at now : ℕ) (r left : R) (s : Stop) → Refuses a names s bytes now r left
    → Stands a o bytes at r now → StopsBy a s o bytes at × Leaves a names s o bytes at (names left)
fails_behind {R} {a} z names o bytes at now r left s x k =
    let fails = fails_in z o bytes at now x.token (next_lexeme bytes x.token.until) r s x.token_is refl k x.unread x.fails in
    (fails.0, left_names a names s o bytes at r (names left) fails.1 x.names_are)
