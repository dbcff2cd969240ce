-- What is read is what the words spell, in both directions.
use Rattle.std.proofs.Common.{◌≡◌, Bool, true, false, List, [], ◌∷◌, ◌++◌, map, Option, Some, None, refl, sym, ap, subst, ◌∙◌, true≢false}
use Rattle.std.specs.Prelude.{find, fold}
use Rattle.std.specs.Str.{bytes_eq}
use Rattle.clap.specs.Faults.{fault_of}
use Rattle.clap.specs.Kinds.{Kinds}
use Rattle.clap.specs.Walk.{with_default}
use Rattle.clap.specs.Words.{subcommand_of}
use Rattle.clap.proofs.WalkLemmas.{both}
use Rattle.rs_words.specs.declared.tasks.Task.{Task}
use Rattle.rs_words.specs.Clap.{app, dashes_are_allowed, task_found, dash_is_allowed}
use Rattle.rs_words.specs.Grammar.{AllNew, Form, SpellsUses, Bytes, Use, ending_uses, forms, use_of}
use Rattle.rs_words.specs.Meaning.{IsMeaning, SpellsTask, task_of, text_of_use}
use Rattle.rs_words.proofs.Lookups.{built_rules, found_passes, same_text}
use Rattle.rs_words.proofs.Turns.{dashes, plain_is_no_dash, rows_of_uses}
use Rattle.rs_words.proofs.Sound.{clash, run_fault, run_rows, sound}
use Rattle.rs_words.proofs.Complete.{complete, plain_is_allowed, is_allowed_before}
use Rattle.rs_words.proofs.Levels.{command_fault, command_rows, no_command, no_words, start}
use Rattle.rs_words.proofs.Found.{TrueOnly, WellMade, form_test, forms_pass, found_test, texts_found, uses_true, well_made}

-- the form is the one of its name
abbrev IsKnown : Form → Type 0
IsKnown f = find (λ g. bytes_eq g.name f.name) forms ≡ Some f

made : (f : Form) → IsKnown f → WellMade f
made f k = well_made f (found_test form_test (λ g. bytes_eq g.name f.name) forms f forms_pass k)

-- what clap's rows ask for is what the uses ask for
task_is : (f : Form) → IsKnown f → (rest : List Bytes) (s : (uses : List Use) × SpellsUses f rest uses) → run_rows f start rest ≡ rows_of_uses s.0
    → task_found (subcommand_of app (f.name ∷ rest)) ≡ task_of f.name (λ id. text_of_use id s.0)
task_is f k rest s rows =
    let m = made f k in
    let only = uses_true f m s.1.pieces s.1.ending s.1.pieces_stand s.1.ending_stands in
    ap task_found (command_rows f k rest ∙ ap (λ r. Some (f.name, fold with_default r (built_rules f))) rows)
    ∙ (λ i. task_of f.name (λ id. texts_found f m s.0 (subst (λ us. TrueOnly us) (sym s.1.uses_are) only) id i))

-- clap takes what is spelt
record IsTaken (words : List Bytes) (spelt : Task) : Type 0 where
  allowed : dashes_are_allowed words false ≡ true
  passes : fault_of app words ≡ []
  found : task_found (subcommand_of app words) ≡ Some spelt

to_clap : (words : List Bytes) (spelt : Task) → SpellsTask words spelt → IsTaken words spelt
to_clap words spelt s =
    let f = s.form in
    let m = made f s.is_command in
    let u = s.rest_spells in
    let once = subst (AllNew []) u.uses_are u.all_new in
    let t = complete f m.good m.names u.pieces u.ending u.ending_stands [] None false tt refl u.pieces_stand once (λ id w e. absurd (true≢false (sym e))) in
    let allowed : dashes_are_allowed s.rest false ≡ true = subst (λ l. dashes_are_allowed l false ≡ true) (sym u.words_are) t.allowed in
    let passes : run_fault f start s.rest ≡ [] = subst (λ l. run_fault f start l ≡ []) (sym u.words_are) t.passes in
    let rows : run_rows f start s.rest ≡ rows_of_uses s.uses = subst (λ l. run_rows f start l ≡ rows_of_uses s.uses) (sym u.words_are) (t.rows_are ∙ ap rows_of_uses (sym u.uses_are)) in
    subst (λ l. IsTaken l spelt) (sym s.words_are) (record {
      allowed = is_allowed_before f.name s.rest (plain_is_allowed f.name m.plain) (plain_is_no_dash f.name m.plain).0 allowed;
      passes = command_fault f s.is_command s.rest ∙ passes;
      found = task_is f s.is_command s.rest (s.uses, u) rows ∙ s.task_is;
    })

-- uses of a command spell one thing at most: what they ask for
pub asked : (form : Form) → IsKnown form → (rest : List Bytes) (uses : List Use) → SpellsUses form rest uses → (spelt : Task) → SpellsTask (form.name ∷ rest) spelt
    → task_of form.name (λ id. text_of_use id uses) ≡ Some spelt
asked f k rest uses u spelt s =
    let m = made f k in
    let once = subst (AllNew []) u.uses_are u.all_new in
    let t = complete f m.good m.names u.pieces u.ending u.ending_stands [] None false tt refl u.pieces_stand once (λ id w e. absurd (true≢false (sym e))) in
    let rows : run_rows f start rest ≡ rows_of_uses uses = subst (λ l. run_rows f start l ≡ rows_of_uses uses) (sym u.words_are) (t.rows_are ∙ ap rows_of_uses (sym u.uses_are)) in
    sym (task_is f k rest (uses, u) rows) ∙ (to_clap (f.name ∷ rest) spelt s).found

-- what clap takes is spelt
record IsSpelt (words : List Bytes) : Type 0 where
  form : Form
  known : IsKnown form
  rest : List Bytes
  uses : List Use
  text : words ≡ form.name ∷ rest
  spelt : SpellsUses form rest uses
  found : task_found (subcommand_of app words) ≡ task_of form.name (λ id. text_of_use id uses)

from_clap : (words : List Bytes) → dashes_are_allowed words false ≡ true → fault_of app words ≡ [] → IsSpelt words
from_clap [] allowed e = absurd (no_words e)
from_clap (n ∷ rest) allowed e = by_form (find (λ g. bytes_eq g.name n) forms) refl
  where
    parts : (dash_is_allowed false n ≡ true) × (dashes_are_allowed rest (bytes_eq n dashes) ≡ true)
    parts = both (dash_is_allowed false n) (dashes_are_allowed rest (bytes_eq n dashes)) allowed

    by_form : (o : Option Form) → find (λ g. bytes_eq g.name n) forms ≡ o → IsSpelt (n ∷ rest)
    by_form None i = absurd (no_command n rest i parts.0 e)
    by_form (Some f) i =
        let same : f.name ≡ n = same_text f.name n (found_passes (λ g. bytes_eq g.name n) forms f i) in
        let k : IsKnown f = subst (λ t. find (λ g. bytes_eq g.name t) forms ≡ Some f) (sym same) i in
        let m = made f k in
        let no_dash : bytes_eq n dashes ≡ false = subst (λ t. bytes_eq t dashes ≡ false) same (plain_is_no_dash f.name m.plain).0 in
        let rest_is_allowed : dashes_are_allowed rest false ≡ true = subst (λ b. dashes_are_allowed rest b ≡ true) no_dash parts.1 in
        let run : run_fault f start rest ≡ [] = sym (command_fault f k rest) ∙ subst (λ t. fault_of app (t ∷ rest) ≡ []) (sym same) e in
        let r = sound f m.good rest [] None false tt rest_is_allowed run in
        let uses : List Use = map (use_of f) r.pieces ++ ending_uses f r.ending in
        let spelt : SpellsUses f rest uses = record { pieces = r.pieces; ending = r.ending; words_are = r.text; pieces_stand = r.stand; ending_stands = r.end; uses_are = refl; all_new = r.once } in
        record {
          form = f;
          known = k;
          rest = rest;
          uses = uses;
          text = ap (λ t. t ∷ rest) (sym same);
          spelt = spelt;
          found = ap (λ t. task_found (subcommand_of app (t ∷ rest))) (sym same) ∙ task_is f k rest (uses, spelt) r.rows_are;
        }

-- where clap took the words
pub meaning_of_taken : (words : List Bytes) (spelt : Option Task) → dashes_are_allowed words false ≡ true → fault_of app words ≡ [] → spelt ≡ task_found (subcommand_of app words)
    → IsMeaning words spelt
meaning_of_taken words None allowed e is = λ t s. let taken = to_clap words t s in not_both (task_found (subcommand_of app words)) t (sym is) taken.found
  where
    not_both : (o : Option Task) (t : Task) → o ≡ None → o ≡ Some t → ⊥
    not_both o t a b = cc
meaning_of_taken words (Some t) allowed e is =
    let told = from_clap words allowed e in
    record { form = told.form; rest = told.rest; uses = told.uses; is_command = told.known; words_are = told.text; rest_spells = told.spelt; task_is = sym told.found ∙ sym is }

-- where they failed the test, or clap refused them
pub meaning_of_refused : (words : List Bytes) → (dashes_are_allowed words false ≡ true → fault_of app words ≡ [] → ⊥) → IsMeaning words None
meaning_of_refused words refused = λ t s. let taken = to_clap words t s in refused taken.allowed taken.passes

-- a list of words has a meaning
pub words_mean_something : (words : List Bytes) → (meaning : Option Task) × IsMeaning words meaning
words_mean_something words = by_dashes (dashes_are_allowed words false) refl
  where
    by_fault : (kinds : Kinds) → fault_of app words ≡ kinds → dashes_are_allowed words false ≡ true → (meaning : Option Task) × IsMeaning words meaning
    by_fault [] passes allowed = (task_found (subcommand_of app words), meaning_of_taken words (task_found (subcommand_of app words)) allowed passes refl)
    by_fault (k ∷ ks) fails allowed = (None, meaning_of_refused words (λ _ passes. clash (fault_of app words) k ks fails passes))

    by_dashes : (b : Bool) → dashes_are_allowed words false ≡ b → (meaning : Option Task) × IsMeaning words meaning
    by_dashes true allowed = by_fault (fault_of app words) refl allowed
    by_dashes false refused = (None, meaning_of_refused words (λ allowed _. absurd (true≢false (sym allowed ∙ refused))))

pub words_spell_one_task : (words : List Bytes) (one other : Task) → SpellsTask words one → SpellsTask words other → one ≡ other
words_spell_one_task words one other s t = some_same (sym (to_clap words one s).found ∙ (to_clap words other t).found)
  where
    some_same : Some one ≡ Some other → one ≡ other
    some_same e = cc

-- a list of words has one meaning at most
pub words_mean_one_thing : (words : List Bytes) (one other : Option Task) → IsMeaning words one → IsMeaning words other → one ≡ other
words_mean_one_thing words None None a b = refl
words_mean_one_thing words None (Some t) a b = absurd (a t b)
words_mean_one_thing words (Some t) None a b = absurd (b t a)
words_mean_one_thing words (Some t) (Some s) a b = ap (λ x. Some x) (words_spell_one_task words t s a b)
