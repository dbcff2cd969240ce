-- What is read, and what has a first fault: for the tokens of a text.
use Rattle.std.proofs.Common.{◌≡◌, ℕ, ◌≤◌, List, [], ◌∷◌, ◌++◌, length, Bool, true, false, ◌&&◌, if◌then◌else◌, Option, Some, None, Result, Ok, Err, IfOk, IfErr, refl, sym, ap, ◌∙◌, subst, ◌⊎◌, inl, inr, append-nil}
use Rattle.rs_grammar.specs.declared.symbols.Symbol.{Symbol}
use Rattle.rs_grammar.specs.Building.{Building, next_among, built}
use Rattle.rs_grammar.specs.Ends.{no_step}
use Rattle.rs_grammar.specs.Grammar.{Grammar, whole}
use Rattle.rs_grammar.specs.Places.{Takes, Leads, can_end}
use Rattle.rs_grammar.specs.Readings.{event, EndsAt, IsFirstFault, IsReadAs, fault_rule, Makes}
use Rattle.rs_grammar.specs.Steps.{Reader, Step, step, is_left, settled, is_done, automaton}
use Rattle.rs_grammar.specs.Tests.{is_readable}
use Rattle.rs_grammar.specs.Trees.{Event, Trees, SpellsAs, events_of, signs_in}
use Rattle.rs_grammar.proofs.Deciding.{to, step_takes, takes_step}
use Rattle.rs_grammar.proofs.Judged.{At, Done, IsPlace, Readable, begins, judges, never_broken, ok_made, derive_on, place_after, place_on, readable, settled_done, whole_fed, whole_place, whole_stays}
use Rattle.rs_grammar.proofs.OneTree.{one_tree}
use Rattle.rs_grammar.proofs.Spelling.{Derives, cons_same, treed}
use Rattle.rs_text.specs.declared.faults.TextFault.{TextFault}
use Rattle.rs_text.specs.declared.faults.TextKind.{TextKind}
use Rattle.rs_text.specs.FirstFaults.{FirstFaultBy, IsWhole}
use Rattle.rs_text.specs.Lexemes.{Lexeme, signs_of}
use Rattle.rs_text.specs.Lexing.{Lexed}
use Rattle.rs_text.specs.declared.reading.Stop.{Stop}
use Rattle.rs_text.specs.declared.reading.Stop.TheVariants as stops
use Rattle.rs_text.specs.Readings.{Reading, ReadsBy, StopsBy, feed_sign, next_lexeme_of, read_all, last_of}
use Rattle.rs_text.specs.Signs.{Sign, broken}
use Rattle.rs_text.proofs.Judging as judging
use Rattle.rs_text.proofs.Judging.{Halt, halt, found, first_of}
use Rattle.rs_text.proofs.Keeping.{tokens}
use Rattle.rs_text.proofs.Leading.{sign_behind}
use Rattle.rs_text.proofs.Nexts.{one_list, are_lexed, lexed_are}

abbrev pub start_of : {S : Type 0} → S → Reader S
start_of s = record { place = whole; value = s }

-- ---- what was read is a sentence

untaken : (g : Grammar) (q : Readable g) (d : List Symbol) (t : Sign) → IsPlace g d → step g d t ≡ None → (action : ℕ) → (m : List Symbol) → Takes g (event action t) d m → ⊥
untaken g q d t p e a m k = absurd (cc (sym (takes_step g q.decided (event a t) d m p.fits k) ∙ e))

ends_at : (g : Grammar) (q : Readable g) (d : List Symbol) (t : Sign) → IsPlace g d → Done g d t → EndsAt g d t
ends_at g q d t p (inl e) = inl e
ends_at g q d t p (inr e) = inr (e.0, e.1, untaken g q d t p e.2)

can_end_so : (g : Grammar) (d : List Symbol) (t : Sign) → Done g d t → can_end g d ≡ true
can_end_so g d t (inl e) = ap (can_end g) e
can_end_so g d t (inr e) = e.0

read_by : {S : Type 0} (g : Grammar) (q : Readable g) (take : Building S) (s : S) (bytes : List ℕ) (at : ℕ) (ls : List Lexeme) (x : Reading (Reader S)) → Lexed bytes at ls
    → Halt (automaton g take) (λ xs t r. At g take s xs t r) [] ls x → IsReadAs g take s bytes at x.reader.value x.until
read_by g q take s bytes at ls x lexed h =
    let a : At g take s (signs_of h.xs) h.l.sign x.reader = h.stands in
    let es : List Event = a.reaches.events in
    let done : Done g a.place h.l.sign = settled_done g a.place h.l.sign (ap is_done (sym a.settled_is) ∙ h.read) in
    let t = treed g whole es (subst (λ (z : List Event). Derives g whole z) (append-nil es) (derive_on g whole a.place es [] a.reaches.leads (can_end_so g a.place h.l.sign done))) in
    record {
      trees = t.0;
      lexemes = h.xs;
      next = h.l;
      others = h.others;
      tokens = lexed_are bytes (h.xs ++ h.l ∷ h.others) at (subst (Lexed bytes at) h.split lexed);
      spelt = (t.1, sym a.reaches.signs ∙ ap signs_in (sym t.2));
      place = a.place;
      leads = subst (λ (z : List Event). Leads g whole z a.place) (sym t.2) a.reaches.leads;
      longest = ends_at g q a.place h.l.sign (place_after g q whole a.place es (whole_place g q) a.reaches.leads) done;
      made = subst (λ (z : List Event). built take z h.l.sign s ≡ Ok x.reader.value) (sym t.2) a.reaches.made;
      goes_on = h.until;
    }

pub sound : {S : Type 0} (g : Grammar) → Readable g → (take : Building S) (s : S) (bytes : List ℕ) (at : ℕ) (ls : List Lexeme) (x : Reading (Reader S)) → Lexed bytes at ls
    → read_all (automaton g take) (Ok (start_of s)) ls ≡ Ok x → IsReadAs g take s bytes at x.reader.value x.until
sound g q take s bytes at ls x lexed e = read_by g q take s bytes at ls x lexed (halt (judges g q take s) (start_of s) bytes at ls x (begins g q take s) lexed e)

-- ---- a sentence is read

next_sign : (x : Lexeme) (xs : List Lexeme) (l : Lexeme) (others : List Lexeme) → (next_lexeme_of x (xs ++ l ∷ others)).sign ≡ sign_behind (signs_of xs) l.sign
next_sign x [] l others = refl
next_sign x (y ∷ xs) l others = refl

among_next : (es : List Event) (xs : List Sign) (u : Sign) → xs ≡ signs_in es → sign_behind xs u ≡ next_among es u
among_next [] xs u h = ap (λ z. sign_behind z u) h
among_next (e ∷ es) xs u h = ap (λ z. sign_behind z u) h

stays_if : (b : Bool) (t : Sign) (x : Symbol) (xs : List Symbol) (m : Step) (o : Option Step) → o ≡ Some m → (if b && is_left t o then [] else x ∷ xs) ≡ x ∷ xs
stays_if b (broken k) x xs m o e = if_not b x xs
  where
    if_not : (b : Bool) (x : Symbol) (xs : List Symbol) → (if b && false then [] else x ∷ xs) ≡ x ∷ xs
    if_not true x xs = refl
    if_not false x xs = refl
stays_if b t x xs m None e = absurd (cc e)
stays_if true t x xs m (Some o) e = refl
stays_if false t x xs m (Some o) e = refl

settled_on : (g : Grammar) (xs : List Symbol) (t : Sign) (m : Step) → step g xs t ≡ Some m → settled g xs t ≡ xs
settled_on g [] t m h = refl
settled_on g (x ∷ xs) t m h = stays_if (can_end g (x ∷ xs)) t x xs m (step g (x ∷ xs) t) h

unread : (g : Grammar) (xs : List Symbol) (t : Sign) (m : Step) → step g xs t ≡ Some m → is_done xs ≡ false
unread g [] t m h = absurd (cc h)
unread g (x ∷ xs) t m h = refl

whole_step : (g : Grammar) (xs : List Symbol) (t : Sign) (m : Step) → step g xs t ≡ Some m → IsWhole t
whole_step g xs (broken k) m h = absurd (cc (sym h ∙ no_step g xs (broken k) (never_broken k)))
whole_step g xs t m h = tt

end_settled : (g : Grammar) (d : List Symbol) (t : Sign) → EndsAt g d t → settled g d t ≡ []
end_settled g [] t h = refl
end_settled g (x ∷ xs) t (inl e) = absurd (cc e)
end_settled g (x ∷ xs) t (inr h) = rw (h.0) (end_left (step g (x ∷ xs) t) t refl h.1)
  where
    end_left : (o : Option Step) (u : Sign) → step g (x ∷ xs) t ≡ o → IsWhole u → (if is_left u o then [] else x ∷ xs) ≡ []
    end_left None (broken k) e w = absurd w
    end_left None u e w = refl
    end_left (Some m) u e w = absurd (h.2 m.action m.place (step_takes g t (x ∷ xs) m e))

step_fed : {S : Type 0} (g : Grammar) (take : Building S) (xs : List Symbol) (s d : S) (t : Sign) (at : ℕ) (n : Lexeme) (m : Step) → step g xs t ≡ Some m → take m.action t n.sign s ≡ Ok d
    → feed_sign (automaton g take) t at n (record { place = xs; value = s }) ≡ Ok (record { place = settled g m.place n.sign; value = d })
step_fed g take xs s d t at n m e h =
    whole_fed g take t at n (record { place = xs; value = s }) (whole_step g xs t m e) ∙ rw (e, h) refl

read_on : {S : Type 0} (g : Grammar) (take : Building S) (xs : List Symbol) (s d : S) (x : Lexeme) (rest : List Lexeme) (m : Step) → step g xs x.sign ≡ Some m → take m.action x.sign (next_lexeme_of x rest).sign s ≡ Ok d
    → read_all (automaton g take) (Ok (record { place = settled g xs x.sign; value = s })) (x ∷ rest) ≡ read_all (automaton g take) (Ok (record { place = settled g m.place (next_lexeme_of x rest).sign; value = d })) rest
read_on g take xs s d x rest m e h =
    ap (λ z. read_all (automaton g take) (Ok (record { place = z; value = s })) (x ∷ rest)) (settled_on g xs x.sign m e)
    ∙ ap (λ z. if z then Ok (record { reader = record { place = xs; value = s }; until = x.from }) else read_all (automaton g take) (feed_sign (automaton g take) x.sign x.from (next_lexeme_of x rest) (record { place = xs; value = s })) rest) (unread g xs x.sign m e)
    ∙ ap (λ z. read_all (automaton g take) z rest) (step_fed g take xs s d x.sign x.from (next_lexeme_of x rest) m e h)

runs : {S : Type 0} (g : Grammar) (q : Readable g) (take : Building S) (xs d : List Symbol) (es : List Event) (s v : S) (ls : List Lexeme) (l : Lexeme) (others : List Lexeme) → IsPlace g xs → signs_of ls ≡ signs_in es → Leads g xs es d
    → built take es l.sign s ≡ Ok v → EndsAt g d l.sign
    → read_all (automaton g take) (Ok (record { place = settled g xs (sign_behind (signs_of ls) l.sign); value = s })) (ls ++ l ∷ others) ≡ Ok (record { reader = record { place = []; value = v }; until = l.from })
runs g q take xs d [] s v [] l others p c k b e =
    let same : s ≡ v = cc in
    ap (λ z. read_all (automaton g take) (Ok (record { place = settled g z l.sign; value = s })) (l ∷ others)) k
    ∙ ap (λ z. read_all (automaton g take) (Ok (record { place = z; value = s })) (l ∷ others)) (end_settled g d l.sign e)
    ∙ ap (λ z. Ok (record { reader = record { place = []; value = z }; until = l.from })) same
runs g q take xs d (f ∷ es) s v [] l others p c k b e = absurd (cc c)
runs g q take xs d [] s v (x ∷ ls) l others p c k b e = absurd (cc c)
runs g q take xs d (f ∷ es) s v (x ∷ ls) l others p c k b e =
    let same = cons_same x.sign f.sign (signs_of ls) (signs_in es) c in
    let next : (next_lexeme_of x (ls ++ l ∷ others)).sign ≡ next_among es l.sign = next_sign x ls l others ∙ among_next es (signs_of ls) l.sign same.1 in
    let m = ok_made (take f.action f.sign (next_among es l.sign) s) (λ d. built take es l.sign d) v b in
    let made : take f.action x.sign (next_lexeme_of x (ls ++ l ∷ others)).sign s ≡ Ok m.0 = ap (λ z. take f.action z (next_lexeme_of x (ls ++ l ∷ others)).sign s) same.0 ∙ ap (λ z. take f.action f.sign z s) next ∙ m.1 in
    let went : step g xs x.sign ≡ Some (to f.action k.0) = ap (step g xs) same.0 ∙ takes_step g q.decided f xs k.0 p.fits k.1 in
    read_on g take xs s m.0 x (ls ++ l ∷ others) (to f.action k.0) went made
    ∙ ap (λ z. read_all (automaton g take) (Ok (record { place = settled g k.0 z; value = m.0 })) (ls ++ l ∷ others)) (next_sign x ls l others)
    ∙ runs g q take k.0 d es m.0 v ls l others (place_on g q f xs k.0 p k.1) same.1 k.2 m.2 e

pub complete : {S : Type 0} (g : Grammar) → Readable g → (take : Building S) (s v : S) (bytes : List ℕ) (at until : ℕ) (ls : List Lexeme) → Lexed bytes at ls → IsReadAs g take s bytes at v until
    → read_all (automaton g take) (Ok (start_of s)) ls ≡ Ok (record { reader = record { place = []; value = v }; until = until })
complete g q take s v bytes at until ls lexed h =
    ap (λ z. read_all (automaton g take) (Ok (start_of s)) z) (one_list bytes ls (h.lexemes ++ h.next ∷ h.others) at lexed (are_lexed bytes (h.lexemes ++ h.next ∷ h.others) at h.tokens))
    ∙ ap (λ z. read_all (automaton g take) (Ok (record { place = z; value = s })) (h.lexemes ++ h.next ∷ h.others)) (whole_stays g q (sign_behind (signs_of h.lexemes) h.next.sign))
    ∙ runs g q take whole h.place (events_of h.trees) s v h.lexemes h.next h.others (whole_place g q) h.spelt.1 h.leads h.made h.longest
    ∙ ap (λ z. Ok (record { reader = record { place = []; value = v }; until = z })) (sym h.goes_on)

-- ---- the laws

abbrev pub FirstFault : {S : Type 0} → Grammar → Building S → S → (bytes : List ℕ) → (at : ℕ) → TextKind → (offset : ℕ) → Type 0
FirstFault g take s bytes at kind offset = FirstFaultBy (fault_rule g take s) bytes at kind offset

reading_is : {S : Type 0} (v w : S) (n m : ℕ) (r : Result (Reading (Reader S)) TextFault) → r ≡ Ok (record { reader = record { place = []; value = v }; until = n }) → r ≡ Ok (record { reader = record { place = []; value = w }; until = m })
    → (v ≡ w) × (n ≡ m)
reading_is v w n m r h k =
    let same : record { reader = record { place = []; value = v }; until = n } ≡ record { reader = record { place = []; value = w }; until = m } = cc in
    (ap (λ (z : Reading (Reader _)). z.reader.value) same, ap (λ (z : Reading (Reader _)). z.until) same)

pub one_reading : {S : Type 0} (g : Grammar) (take : Building S) (s v w : S) (bytes : List ℕ) (at until stop : ℕ) → is_readable g ≡ true → IsReadAs g take s bytes at v until → IsReadAs g take s bytes at w stop
    → (v ≡ w) × (until ≡ stop)
one_reading g take s v w bytes at until stop r a b =
    let q = readable g r in
    let ls : List Lexeme = a.lexemes ++ a.next ∷ a.others in
    let lexed = are_lexed bytes ls at a.tokens in
    reading_is v w until stop (read_all (automaton g take) (Ok (start_of s)) ls) (complete g q take s v bytes at until ls lexed a) (complete g q take s w bytes at stop ls lexed b)

pub one_fault : {S : Type 0} (g : Grammar) (take : Building S) (s : S) (bytes : List ℕ) (at : ℕ) (j k : TextKind) (n m : ℕ) → is_readable g ≡ true → FirstFault g take s bytes at j n → FirstFault g take s bytes at k m → (j ≡ k) × (n ≡ m)
one_fault g take s bytes at j k n m r a b = let q = readable g r in judging.one_fault (judges g q take s) (start_of s) bytes at j k n m (begins g q take s) a b

abbrev ReadOrFaulty : {S : Type 0} → Grammar → Building S → S → List ℕ → ℕ → Type 0
ReadOrFaulty {S} g take s bytes at = ((v : S) × (until : ℕ) × IsReadAs g take s bytes at v until) ⊎ ((kind : TextKind) × (offset : ℕ) × FirstFault g take s bytes at kind offset)

by_reading : {S : Type 0} (g : Grammar) (q : Readable g) (take : Building S) (s : S) (bytes : List ℕ) (at : ℕ) (ls : List Lexeme) (x : Result (Reading (Reader S)) TextFault) → Lexed bytes at ls
    → read_all (automaton g take) (Ok (start_of s)) ls ≡ x → ReadOrFaulty g take s bytes at
by_reading g q take s bytes at ls (Ok x) lexed e = inl (x.reader.value, x.until, sound g q take s bytes at ls x lexed e)
by_reading g q take s bytes at ls (Err f) lexed e =
    inr (
      f.kind,
      f.at,
      first_of (fault_rule g take s) (λ xs r. Makes g take s xs r.value) bytes at ls f (last_of (automaton g take) (start_of s) (Ok (start_of s)) ls) lexed (found (judges g q take s) (start_of s) bytes at ls f (begins g q take s) lexed e),
    )

pub read_or_faulty : {S : Type 0} (g : Grammar) (take : Building S) (s : S) (bytes : List ℕ) (at : ℕ) → is_readable g ≡ true → at ≤ length bytes → ReadOrFaulty g take s bytes at
read_or_faulty g take s bytes at r within = let t = tokens bytes at within in by_reading g (readable g r) take s bytes at t.0 (read_all (automaton g take) (Ok (start_of s)) t.0) t.1 refl

pub read_no_fault : {S : Type 0} (g : Grammar) (take : Building S) (s v : S) (bytes : List ℕ) (at until : ℕ) (k : TextKind) (offset : ℕ) → is_readable g ≡ true → IsReadAs g take s bytes at v until → FirstFault g take s bytes at k offset → ⊥
read_no_fault g take s v bytes at until k offset r a f =
    let q = readable g r in
    judging.no_fault (judges g q take s) (start_of s) bytes at (record { reader = record { place = []; value = v }; until = until }) k offset f (begins g q take s)
    (complete g q take s v bytes at until (f.before ++ f.token ∷ f.others) f.lexed a)

pub tokens_have_one_tree : (g : Grammar) (signs : List Sign) (one other : Trees) → is_readable g ≡ true → SpellsAs g whole signs one → SpellsAs g whole signs other → one ≡ other
tokens_have_one_tree g signs one other r a b = let q = readable g r in one_tree g q.decided whole signs one other (whole_place g q).fits a b

-- ---- what a call of the loop says

pub loop_read : {S : Type 0} (g : Grammar) (take : Building S) (s : S) (r d : Reader S) (v : S) (bytes : List ℕ) (at : ℕ) (result : Result ℕ Stop) → is_readable g ≡ true → at ≤ length bytes → r ≡ start_of s → v ≡ d.value
    → IfOk result (λ until. ReadsBy (automaton g take) r bytes at (Ok (record { reader = d; until = until }))) → IfOk result (λ until. IsReadAs g take s bytes at v until)
loop_read g take s r d v bytes at (Ok until) c within first same h =
    let t = tokens bytes at within in
    subst (λ z. IsReadAs g take s bytes at z until) (sym same)
    (sound g (readable g c) take s bytes at t.0 (record { reader = d; until = until }) t.1 (subst (λ (z : Reader _). read_all (automaton g take) (Ok z) t.0 ≡ Ok (record { reader = d; until = until })) first (h t.0 t.1)))
loop_read g take s r d v bytes at (Err stop) c within first same h = tt

fault_told : {S : Type 0} (g : Grammar) (q : Readable g) (take : Building S) (s : S) (bytes : List ℕ) (at : ℕ) (ls : List Lexeme) (f : TextFault) → Lexed bytes at ls → read_all (automaton g take) (Ok (start_of s)) ls ≡ Err f
    → FirstFault g take s bytes at f.kind f.at
fault_told g q take s bytes at ls f lexed e =
    first_of (fault_rule g take s) (λ xs r. Makes g take s xs r.value) bytes at ls f (last_of (automaton g take) (start_of s) (Ok (start_of s)) ls) lexed (found (judges g q take s) (start_of s) bytes at ls f (begins g q take s) lexed e)

pub loop_stops : {S : Type 0} (g : Grammar) (take : Building S) (s : S) (r : Reader S) (bytes : List ℕ) (at : ℕ) (result : Result ℕ Stop) → is_readable g ≡ true → at ≤ length bytes → r ≡ start_of s
    → IfErr result (λ stop. StopsBy (automaton g take) stop r bytes at) → IfErr result (λ stop. IsFirstFault g take s bytes at stop)
loop_stops g take s r bytes at (Ok until) c within first h = tt
loop_stops g take s r bytes at (Err stops.Memory) c within first h = tt
loop_stops g take s r bytes at (Err (stops.Fault f)) c within first h =
    let t = tokens bytes at within in
    fault_told g (readable g c) take s bytes at t.0 f t.1 (subst (λ (z : Reader _). read_all (automaton g take) (Ok z) t.0 ≡ Err f) first (h t.0 t.1))
