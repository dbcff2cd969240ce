-- A table shows its rows, in order.
use Rattle.std.proofs.Common.{◌≡◌, ℕ, suc, ◌==◌, ◌&&◌, List, [], ◌∷◌, ◌++◌, true, false, if◌then◌else◌, refl, sym, ap, ◌∙◌, append_assoc, codes, Some}
use Rattle.std.proofs.lemmas.List.{append-nil}
use Rattle.rs_text.specs.Arms.{sort_signs}
use Rattle.rs_text.specs.Names.{place_of}
use Rattle.rs_text.specs.Signs.{Sign, end_word, plain, number, bang, question, colon, comma, open_brace, close_brace, open_paren, close_paren, word_sign}
use Rattle.rs_text.specs.TokenTests.{is_keyword}
use Rattle.rs_bodies.specs.declared.dialects.Dialect.TheVariants.{Acts}
use Rattle.rs_bodies.specs.declared.dialects.Mark.{Mark}
use Rattle.rs_bodies.specs.declared.dialects.Mark.TheVariants as mark
use Rattle.rs_bodies.specs.Dialects.{mark_sign}
use Rattle.rs_bodies.specs.Graph.{Numbering}
use Rattle.rs_bodies.specs.Trees.{Body, body_signs}
use Rattle.rs_tables.specs.Trees.{ArmTree, RowTree, end_row, choice_row, arm_signs, arms_signs, row_signs, rows_signs}
use Rattle.rs_places.specs.declared.tokens.Part.{Part}
use Rattle.rs_places.specs.declared.tokens.Part.TheVariants as part
use Rattle.rs_places.specs.Starts.{ends_a_row, body_of, table_of}
use Rattle.rs_places.proofs.BodyWalks.{before_close, body_walk, is_still, last_of, only_if, only_append, only_none, sort_walk, word_opens, word_still}
use Rattle.rs_places.proofs.Turns.{heads}
use Rattle.rs_places.proofs.Walks.{IsStill, lone_if, nothing_seen, opens, part_stays, pass, walk, walk_on}

-- ---- arms

one_arm_walk : (roles : List (List ℕ)) (k r : ℕ) (x : ArmTree) (a b t : Sign) (ts : List Sign) → IsStill b → opens t ≡ false
    → walk roles k (arm_signs x ++ t ∷ ts) (part.Table r) a b ≡ walk roles k ts (part.Table r) (number x.next) t
one_arm_walk roles k r x a b t ts s e =
    let p = part.Table r in
    let w = word_sign x.label in
    pass roles k p a b w (open_paren ∷ ((sort_signs x.sort ++ close_paren ∷ number x.next ∷ []) ++ t ∷ ts)) s (word_opens x.label)
    ∙ pass roles k p b w open_paren ((sort_signs x.sort ++ close_paren ∷ number x.next ∷ []) ++ t ∷ ts) (word_still x.label) refl
    ∙ ap (λ z. walk roles k z p w open_paren) (append_assoc (sort_signs x.sort) (close_paren ∷ number x.next ∷ []) (t ∷ ts))
    ∙ sort_walk roles k p w x.sort (number x.next ∷ t ∷ ts)
    ∙ pass roles k p (before_close x.sort) close_paren (number x.next) (t ∷ ts) (is_still close_paren refl refl) refl
    ∙ walk_on roles k p close_paren (number x.next) t ts (part_stays roles p close_paren (number x.next) t e)

-- the last sign of arms before their brace
abbrev last_next : ArmTree → List ArmTree → Sign
last_next x [] = number x.next
last_next x (y ∷ ys) = last_next y ys

arms_walk : (roles : List (List ℕ)) (k r : ℕ) (later : List ArmTree) (x : ArmTree) (a b : Sign) (ts : List Sign) → IsStill b
    → walk roles k (arms_signs x later ++ close_brace ∷ ts) (part.Table r) a b ≡ walk roles k ts (part.Table r) (last_next x later) close_brace
arms_walk roles k r [] x a b ts s = ap (λ z. walk roles k (z ++ close_brace ∷ ts) (part.Table r) a b) (append-nil (arm_signs x)) ∙ one_arm_walk roles k r x a b close_brace ts s refl
arms_walk roles k r (y ∷ ys) x a b ts s =
    ap (λ z. walk roles k z (part.Table r) a b) (append_assoc (arm_signs x) (comma ∷ arms_signs y ys) (close_brace ∷ ts))
    ∙ one_arm_walk roles k r x a b comma (arms_signs y ys ++ close_brace ∷ ts) s refl
    ∙ arms_walk roles k r ys y (number x.next) comma ts (is_still comma refl refl)

-- ---- rows

-- what is seen of a row with this number
abbrev pub row_seen : ℕ → RowTree → List Sign
row_seen n end_row = number n ∷ end_word ∷ []
row_seen n (choice_row peer m first later) = number n ∷ plain peer ∷ []

-- and of rows, the first of which has this number
abbrev pub rows_seen : ℕ → List RowTree → List (List Sign)
rows_seen n [] = []
rows_seen n (t ∷ ts) = row_seen n t ∷ rows_seen (suc n) ts

-- the last two signs of a row
abbrev row_before : ℕ → RowTree → Sign
row_before n end_row = number n
row_before n (choice_row peer m first later) = last_next first later

abbrev row_last : RowTree → Sign
row_last end_row = end_word
row_last (choice_row peer m first later) = close_brace

row_ends : (t : RowTree) → ends_a_row (row_last t) ≡ true
row_ends end_row = refl
row_ends (choice_row peer m first later) = refl

row_still : (t : RowTree) → IsStill (row_last t)
row_still end_row = is_still end_word refl refl
row_still (choice_row peer m first later) = is_still close_brace refl refl

-- a row's number, and the sign after it
number_walk : (roles : List (List ℕ)) (k r n : ℕ) (a b c : Sign) (cs : List Sign) → IsStill b → ends_a_row b ≡ true → opens c ≡ false
    → walk roles k (number n ∷ c ∷ cs) (part.Table r) a b ≡ only_if (r == k) ((number n ∷ c ∷ []) ∷ []) ++ walk roles k cs (part.Table r) (number n) c
number_walk roles k r n a b c cs s e o =
    let p = part.Table r in
    pass roles k p a b (number n) (c ∷ cs) s refl
    ∙ walk_on roles k p b (number n) c cs (part_stays roles p b (number n) c o)
    ∙ ap (λ z. (if z && true then only_if (r == k) ((number n ∷ c ∷ []) ∷ []) else []) ++ walk roles k cs p (number n) c) e

mark_walk : (roles : List (List ℕ)) (k r n : ℕ) (peer : List ℕ) (m : Mark) (cs : List Sign)
    → walk roles k (mark_sign m ∷ open_brace ∷ cs) (part.Table r) (number n) (plain peer) ≡ walk roles k cs (part.Table r) (mark_sign m) open_brace
mark_walk roles k r n peer mark.Puts cs =
    pass roles k (part.Table r) (number n) (plain peer) bang (open_brace ∷ cs) (is_still (plain peer) refl refl) refl
    ∙ walk_on roles k (part.Table r) (plain peer) bang open_brace cs (lone_if (is_keyword (codes "bound") (plain peer)) part.Other (part.Table r))
mark_walk roles k r n peer mark.Takes cs =
    pass roles k (part.Table r) (number n) (plain peer) question (open_brace ∷ cs) (is_still (plain peer) refl refl) refl
    ∙ walk_on roles k (part.Table r) (plain peer) question open_brace cs (lone_if (is_keyword (codes "bound") (plain peer)) part.Other (part.Table r))

row_walk : (roles : List (List ℕ)) (k r n : ℕ) (t : RowTree) (a b : Sign) (rest : List Sign) → IsStill b → ends_a_row b ≡ true
    → walk roles k (row_signs n t ++ rest) (part.Table r) a b ≡ only_if (r == k) (row_seen n t ∷ []) ++ walk roles k rest (part.Table r) (row_before n t) (row_last t)
row_walk roles k r n end_row a b rest s e = number_walk roles k r n a b end_word rest s e refl
row_walk roles k r n (choice_row peer m first later) a b rest s e =
    number_walk roles k r n a b (plain peer) (mark_sign m ∷ open_brace ∷ ((arms_signs first later ++ close_brace ∷ []) ++ rest)) s e refl
    ∙ ap (λ z. only_if (r == k) ((number n ∷ plain peer ∷ []) ∷ []) ++ z) (
    mark_walk roles k r n peer m ((arms_signs first later ++ close_brace ∷ []) ++ rest)
    ∙ ap (λ z. walk roles k z (part.Table r) (mark_sign m) open_brace) (append_assoc (arms_signs first later) (close_brace ∷ []) rest)
    ∙ arms_walk roles k r later first (mark_sign m) open_brace rest (is_still open_brace refl refl))

-- the last sign of rows before the table's brace
abbrev rows_last : Sign → List RowTree → Sign
rows_last b [] = b
rows_last b (t ∷ ts) = rows_last (row_last t) ts

rows_walk : (roles : List (List ℕ)) (k r : ℕ) (rows : List RowTree) (n : ℕ) (a b : Sign) (rest : List Sign) → IsStill b → ends_a_row b ≡ true
    → walk roles k (rows_signs n rows ++ close_brace ∷ rest) (part.Table r) a b ≡ only_if (r == k) (rows_seen n rows) ++ walk roles k rest (part.Table r) (rows_last b rows) close_brace
rows_walk roles k r [] n a b rest s e = pass roles k (part.Table r) a b close_brace rest s refl ∙ ap (λ z. z ++ walk roles k rest (part.Table r) b close_brace) (sym (only_none (r == k)))
rows_walk roles k r (t ∷ ts) n a b rest s e =
    let last = walk roles k rest (part.Table r) (rows_last (row_last t) ts) close_brace in
    ap (λ z. walk roles k z (part.Table r) a b) (append_assoc (row_signs n t) (rows_signs (suc n) ts) (close_brace ∷ rest))
    ∙ row_walk roles k r n t a b (rows_signs (suc n) ts ++ close_brace ∷ rest) s e
    ∙ ap (λ z. only_if (r == k) (row_seen n t ∷ []) ++ z) (rows_walk roles k r ts (suc n) (row_before n t) (row_last t) rest (row_still t) (row_ends t))
    ∙ sym (append_assoc (only_if (r == k) (row_seen n t ∷ [])) (only_if (r == k) (rows_seen (suc n) ts)) last)
    ∙ ap (λ z. z ++ last) (sym (only_append (r == k) (row_seen n t ∷ []) (rows_seen (suc n) ts)))

-- ---- parts, after the word that they begin with

of_table : (roles : List (List ℕ)) (role : List ℕ) (r : ℕ) → place_of role roles ≡ Some r → table_of roles role ≡ part.Table r
of_table roles role r e = rw e refl

of_body : (roles : List (List ℕ)) (role : List ℕ) (r : ℕ) → place_of role roles ≡ Some r → body_of roles role ≡ part.Body r
of_body roles role r e = rw e refl

pub table_walk : (roles : List (List ℕ)) (k r : ℕ) (p : Part) (role : List ℕ) (rows : List RowTree) (a t : Sign) (ts : List Sign) → place_of role roles ≡ Some r → opens t ≡ false
    → walk roles k (plain role ∷ open_brace ∷ ((rows_signs 0 rows ++ close_brace ∷ []) ++ t ∷ ts)) p a (plain (codes "table"))
    ≡ only_if (r == k) (rows_seen 0 rows) ++ walk roles k ts (part.Table r) close_brace t
table_walk roles k r p role rows a t ts e o =
    let word = plain (codes "table") in
    let cs = (rows_signs 0 rows ++ close_brace ∷ []) ++ t ∷ ts in
    pass roles k p a word (plain role) (open_brace ∷ cs) (is_still word refl refl) refl
    ∙ ap (λ z. z ++ walk roles k cs (table_of roles role) (plain role) open_brace) (nothing_seen k p word (plain role) open_brace (is_still (plain role) refl refl))
    ∙ ap (λ z. walk roles k cs z (plain role) open_brace) (of_table roles role r e)
    ∙ ap (λ z. walk roles k z (part.Table r) (plain role) open_brace) (append_assoc (rows_signs 0 rows) (close_brace ∷ []) (t ∷ ts))
    ∙ rows_walk roles k r rows 0 (plain role) open_brace (t ∷ ts) (is_still open_brace refl refl) refl
    ∙ ap (λ z. only_if (r == k) (rows_seen 0 rows) ++ z) (pass roles k (part.Table r) (rows_last open_brace rows) close_brace t ts (is_still close_brace refl refl) o)

pub machine_walk : (roles : List (List ℕ)) (k r : ℕ) (p : Part) (role : List ℕ) (m : Body Acts) (a t : Sign) (ts : List Sign) (n : Numbering) → place_of role roles ≡ Some r → opens t ≡ false
    → walk roles k (plain role ∷ colon ∷ (body_signs Acts m ++ t ∷ ts)) p a (plain (codes "machine")) ≡ only_if (r == k) (heads Acts n m [] 0) ++ walk roles k ts (part.Body r) (last_of Acts m) t
machine_walk roles k r p role m a t ts n e o =
    let word = plain (codes "machine") in
    let cs = body_signs Acts m ++ t ∷ ts in
    pass roles k p a word (plain role) (colon ∷ cs) (is_still word refl refl) refl
    ∙ ap (λ z. z ++ walk roles k cs (body_of roles role) (plain role) colon) (nothing_seen k p word (plain role) colon (is_still (plain role) refl refl))
    ∙ ap (λ z. walk roles k cs z (plain role) colon) (of_body roles role r e)
    ∙ body_walk roles k Acts r m (plain role) colon t ts n [] 0 (is_still colon refl refl) o
