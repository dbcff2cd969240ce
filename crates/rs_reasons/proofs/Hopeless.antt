-- Where it is told that no bound helps, no derivation remembers what it owes.
use Rattle.std.proofs.Common.{◌≡◌, ◌≢◌, ◌⊎◌, ◌||◌, inl, inr, ◌++◌, ◌∷◌, [], ◌∙◌, ℕ, List, Bool, true, false, codes, refl, sym, ap, append_assoc, arith}
use Rattle.std.specs.Fmt.{decimal}
use Rattle.std.proofs.lemmas.Bool.{and_parts, false≢true}
use Rattle.rs_derive.specs.Data.{Derivation_data}
use Rattle.rs_derive.specs.Derivations.{IsDerivation, IsProper, Remembers}
use Rattle.rs_explain.proofs.Blocking.{no_move}
use Rattle.rs_explain.proofs.Dying.{dying_leads}
use Rattle.rs_explain.proofs.Existing.{certified}
use Rattle.rs_explain.proofs.Forced.{forced}
use Rattle.rs_explain.proofs.Growing.{endless}
use Rattle.rs_explain.specs.Explanations.{EndsBy, Explanation_data, IsExplanation}
use Rattle.rs_explain.specs.Forcing.{is_forced}
use Rattle.rs_explain.specs.Growth.{grows_for_ever}
use Rattle.rs_explain.specs.Walks.{WalkStep_data, end_of}
use Rattle.rs_explain.specs.declared.explaining.Ending.{Ending}
use Rattle.rs_explain.specs.declared.explaining.Ending.TheVariants.{Blocked, Cut}
use Rattle.rs_model.specs.declared.limits.TheConstants.{MOST_BOUND}
use Rattle.rs_safety.specs.Room.{longest}
use Rattle.rs_search.proofs.Determined.{is_forgetful}
use Rattle.rs_search.proofs.Remembering.{not_forgetful}
use Rattle.rs_search.proofs.Uncut.{none_at_all}
use Rattle.rs_search.specs.Candidates.{start_spot}
use Rattle.rs_search.specs.Canonical.{IsForgets, IsNotFound, SearchRefuses}
use Rattle.rs_search.specs.declared.faults.SearchFault.{SearchFault}
use Rattle.rs_search.specs.declared.faults.SearchFault.TheVariants as search
use Rattle.rs_text.specs.NamePlaces.{name_at}
use Rattle.rs_walk_texts.specs.Data.{WalkSource_data}
use Rattle.rs_reasons.specs.Underivable.{Accepts, Finds, GreatestForgets, GreatestHelps, GreatestRefuses, IsNoLess, IsTooLarge, NoneHelps, Refuses, TellsNotFound, TellsSearch, TellsTooLarge, TellsUnderivable, helped_line, hopeless_line, is_blocked, is_forgetting, is_hopeless, leads_nowhere, lesser_bounds, refused_line, refusing_line, way_text, with_bound_line}

-- the last letters of a text

-- the third of its last three codes
abbrev third_last : List ℕ → ℕ
third_last [] = 0
third_last (a ∷ []) = 0
third_last (a ∷ b ∷ []) = 0
third_last (a ∷ b ∷ c ∷ []) = a
third_last (a ∷ b ∷ c ∷ d ∷ rest) = third_last (b ∷ c ∷ d ∷ rest)

third_is : (text : List ℕ) (a b c : ℕ) → third_last (text ++ a ∷ b ∷ c ∷ []) ≡ a
third_is [] a b c = refl
third_is (x ∷ []) a b c = refl
third_is (x ∷ y ∷ []) a b c = refl
third_is (x ∷ y ∷ z ∷ []) a b c = refl
third_is (x ∷ y ∷ z ∷ w ∷ rest) a b c = third_is (y ∷ z ∷ w ∷ rest) a b c

-- a text that ends with no such line ends otherwise
other_end : (lines before way : List ℕ) (a b c : ℕ) → lines ≡ before ++ hopeless_line → lines ≡ way ++ a ∷ b ∷ c ∷ [] → a ≡ 112
other_end lines before way a b c h e =
    let k : lines ≡ (before ++ codes "no bound hel") ++ 112 ∷ 115 ∷ 10 ∷ [] = h ∙ sym (append_assoc before (codes "no bound hel") (112 ∷ 115 ∷ 10 ∷ [])) in
    sym (third_is way a b c) ∙ sym (ap third_last e) ∙ ap third_last k ∙ third_is (before ++ codes "no bound hel") 112 115 10

-- a line that tells of a bound
bound_end : (way : List ℕ) (bound : ℕ) (what : List ℕ) (a b : ℕ) → way ++ with_bound_line bound (what ++ a ∷ b ∷ []) ≡ (way ++ (codes "with --bound " ++ decimal bound ++ codes " " ++ what)) ++ a ∷ b ∷ 10 ∷ []
bound_end way bound what a b = ap (λ (z : List ℕ). way ++ z) (in_line (codes "with --bound ") (decimal bound) (codes " ") what) ∙ sym (append_assoc way (codes "with --bound " ++ decimal bound ++ codes " " ++ what) (a ∷ b ∷ 10 ∷ []))
  where
    in_line : (w n s x : List ℕ) → w ++ n ++ s ++ (x ++ a ∷ b ∷ []) ++ 10 ∷ [] ≡ (w ++ n ++ s ++ x) ++ a ∷ b ∷ 10 ∷ []
    in_line w n s x = simp append_assoc

apart : (e p : ℕ) → e ≡ p → e ≡ 101 → p ≡ 112 → ⊥
apart e p k a b = omega arith

not_bound : (lines before way : List ℕ) (bound : ℕ) (what : List ℕ) (b : ℕ) → lines ≡ before ++ hopeless_line → lines ≡ way ++ with_bound_line bound (what ++ 101 ∷ b ∷ []) → ⊥
not_bound lines before way bound what b h e =
    let k : 101 ≡ 112 = other_end lines before (way ++ (codes "with --bound " ++ decimal bound ++ codes " " ++ what)) 101 b 10 h (e ∙ bound_end way bound what 101 b) in apart 101 112 k refl refl

none_told : (before : List ℕ) → [] ≡ before ++ hopeless_line → ⊥
none_told [] e = cc e
none_told (x ∷ before) e = cc e

-- nothing is derived

-- at an obstacle ends a way that no other move leaves
blocked : (source : WalkSource_data) (bound : ℕ) (steps : List WalkStep_data) (e : Ending) (d : Derivation_data)
    → EndsBy source.machine source.projection.machine bound (end_of (start_spot source.machine source.projection.machine) steps) e → is_blocked e ≡ true
    → IsExplanation source.machine source.projection.machine bound (record { steps = steps; ending = e })
    → is_forced source.machine source.projection.machine (start_spot source.machine source.projection.machine) steps ≡ true → IsDerivation d source.machine source.projection.machine → ⊥
blocked source bound steps (Blocked o) d ends b h f v =
    certified source.machine source.projection.machine steps d
    (forced source.machine source.projection.machine bound (start_spot source.machine source.projection.machine) steps
    (dying_leads source.machine source.projection.machine bound (start_spot source.machine source.projection.machine) steps h.walk) f)
    (no_move source.machine source.projection.machine (end_of (start_spot source.machine source.projection.machine) steps) o ends) v
blocked source bound steps Cut d ends b h f v = absurd (false≢true b)

either : (a b : Bool) → (a || b) ≡ true → (a ≡ true) ⊎ (b ≡ true)
either true b e = inl refl
either false b e = inr e

hopeless : (source : WalkSource_data) (bound : ℕ) (cut : Bool) (e : Explanation_data) (d : Derivation_data) → IsNotFound source.machine source.projection.machine bound cut
    → IsExplanation source.machine source.projection.machine bound e → is_hopeless source cut e ≡ true → IsDerivation d source.machine source.projection.machine → ⊥
hopeless source bound false e d nf h k v = none_at_all source.machine source.projection.machine bound d nf v
hopeless source bound true e d nf h k v =
    let start = start_spot source.machine source.projection.machine in
    let p = and_parts (leads_nowhere source e) (is_forced source.machine source.projection.machine start e.steps) k in
    elim (either (is_blocked e.ending) (grows_for_ever source.machine start e.steps) p.0) [
      | inl b ↦ blocked source bound e.steps e.ending d h.ending b h p.1 v
      | inr g ↦ endless source.machine source.projection.machine bound e.steps d (dying_leads source.machine source.projection.machine bound start e.steps h.walk) p.1 g v
    ]

forgetful : (source : WalkSource_data) (bound node : ℕ) (d : Derivation_data) → IsProper source.machine → IsProper source.projection.machine
    → IsForgets source.machine source.projection.machine bound node → IsDerivation d source.machine source.projection.machine → Remembers d source.machine source.projection.machine → ⊥
forgetful source bound node d ws wa f v rem =
    not_forgetful source.machine source.projection.machine bound d ws wa v rem (is_forgetful source.machine source.projection.machine bound node f)

refused : (source : WalkSource_data) (fault : SearchFault) (d : Derivation_data) (lines before way : List ℕ) → fault ≢ search.NoMemory → is_forgetting fault ≡ false
    → SearchRefuses source.machine source.projection.machine MOST_BOUND fault → lines ≡ way ++ refusing_line source fault → lines ≡ before ++ hopeless_line
    → IsDerivation d source.machine source.projection.machine → ⊥
refused source (search.NotFound false) d lines before way n f r e h v = none_at_all source.machine source.projection.machine MOST_BOUND d r v
refused source (search.NotFound true) d lines before way n f r e h v =
    not_bound lines before way MOST_BOUND (name_at source.names.roles source.machine.role.0 ++ codes " isn't accepted eith") 114 h
    (e ∙ ap (λ (z : List ℕ). way ++ with_bound_line MOST_BOUND z) (sym (append_assoc (name_at source.names.roles source.machine.role.0) (codes " isn't accepted eith") (101 ∷ 114 ∷ []))))
refused source (search.Forgets node) d lines before way n f r e h v = false≢true (sym f)
refused source search.TooLarge d lines before way n f r e h v = not_bound lines before way MOST_BOUND (codes "there are too many candidat") 115 h e
refused source search.NoMemory d lines before way n f r e h v = n refl

-- the lines that are told stand behind others
not_found : (source : WalkSource_data) (bound : ℕ) (cut : Bool) (whole front lines before : List ℕ) (d : Derivation_data) → IsProper source.machine → IsProper source.projection.machine
    → IsNotFound source.machine source.projection.machine bound cut → TellsNotFound source bound cut lines → whole ≡ front ++ lines → whole ≡ before ++ hopeless_line
    → IsDerivation d source.machine source.projection.machine → Remembers d source.machine source.projection.machine → ⊥
not_found source bound cut whole front lines before d ws wa nf (NoneHelps e x k eq) w h v rem = hopeless source bound cut e d nf x k v
not_found source bound cut whole front lines before d ws wa nf (GreatestRefuses e x k fault n f r eq) w h v rem =
    refused source fault d whole before (front ++ way_text source bound e.steps e.ending) n f r
    (w ∙ ap (λ (z : List ℕ). front ++ z) eq ∙ sym (append_assoc front (way_text source bound e.steps e.ending) (refusing_line source fault))) h v
not_found source bound cut whole front lines before d ws wa nf (GreatestForgets e x k node g f i eq) w h v rem = forgetful source MOST_BOUND node d ws wa g v rem
not_found source bound cut whole front lines before d ws wa nf (GreatestHelps e x k g c steps u eq) w h v rem =
    let way = front ++ way_text source bound steps Cut in
    not_bound whole before way (longest g) (name_at source.names.roles source.machine.role.0 ++ codes " is accept") 100 h
    (w ∙ ap (λ (z : List ℕ). front ++ z) eq ∙ sym (append_assoc front (way_text source bound steps Cut) (helped_line source g))
    ∙ ap (λ (z : List ℕ). way ++ with_bound_line (longest g) z)
    (sym (append_assoc (name_at source.names.roles source.machine.role.0) (codes " is accept") (101 ∷ 100 ∷ []))))

searched : (source : WalkSource_data) (bound : ℕ) (lines before : List ℕ) (d : Derivation_data) → IsProper source.machine → IsProper source.projection.machine → TellsSearch source bound lines
    → lines ≡ before ++ hopeless_line → IsDerivation d source.machine source.projection.machine → Remembers d source.machine source.projection.machine → ⊥
searched source bound lines before d ws wa (Accepts g c e) h v rem =
    not_bound lines before [] bound (name_at source.names.roles source.machine.role.0 ++ codes " is accept") 100 h
    (e ∙ ap (λ (z : List ℕ). with_bound_line bound z) (sym (append_assoc (name_at source.names.roles source.machine.role.0) (codes " is accept") (101 ∷ 100 ∷ []))))
searched source bound lines before d ws wa (Refuses (search.NotFound cut) r reason t e) h v rem = not_found source bound cut lines (refused_line source bound) reason before d ws wa r t e h v rem
searched source bound lines before d ws wa (Refuses (search.Forgets node) r reason t e) h v rem = forgetful source bound node d ws wa r v rem
searched source bound lines before d ws wa (Refuses search.TooLarge r reason t e) h v rem = t
searched source bound lines before d ws wa (Refuses search.NoMemory r reason t e) h v rem = t

too_large : (source : WalkSource_data) (bound : ℕ) (bounds lines before : List ℕ) (d : Derivation_data) → IsProper source.machine → IsProper source.projection.machine
    → TellsTooLarge source bound bounds lines → lines ≡ before ++ hopeless_line → IsDerivation d source.machine source.projection.machine → Remembers d source.machine source.projection.machine → ⊥
too_large source bound [] lines before d ws wa t h v rem = none_told before (sym t ∙ h)
too_large source bound (b ∷ later) lines before d ws wa (IsNoLess l t) h v rem = too_large source bound later lines before d ws wa t h v rem
too_large source bound (b ∷ later) lines before d ws wa (IsTooLarge l m t) h v rem = too_large source bound later lines before d ws wa t h v rem
too_large source bound (b ∷ later) lines before d ws wa (Finds l s) h v rem = searched source b lines before d ws wa s h v rem

pub no_bound_helps : (source : WalkSource_data) (bound : ℕ) (fault : SearchFault) (lines before : List ℕ) (d : Derivation_data) → IsProper source.machine → IsProper source.projection.machine
    → SearchRefuses source.machine source.projection.machine bound fault → TellsUnderivable source bound fault lines → lines ≡ before ++ hopeless_line
    → IsDerivation d source.machine source.projection.machine → Remembers d source.machine source.projection.machine → ⊥
no_bound_helps source bound (search.NotFound cut) lines before d ws wa r t h v rem = not_found source bound cut lines [] lines before d ws wa r t refl h v rem
no_bound_helps source bound (search.Forgets node) lines before d ws wa r t h v rem = forgetful source bound node d ws wa r v rem
no_bound_helps source bound search.TooLarge lines before d ws wa r t h v rem = too_large source bound lesser_bounds lines before d ws wa t h v rem
no_bound_helps source bound search.NoMemory lines before d ws wa r t h v rem = none_told before (sym t ∙ h)
