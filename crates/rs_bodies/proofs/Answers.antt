-- Every text has one answer.
use Rattle.std.proofs.Common.{◌≡◌, ◌≤◌, ℕ, List, Result, length, sym, ap, ◌∙◌}
use Rattle.rs_model.specs.Data.{Names_data}
use Rattle.rs_text.specs.declared.faults.TextFault.{TextFault}
use Rattle.std.specs.Prelude.{Ok}
use Rattle.rs_bodies.specs.declared.dialects.Dialect.{Dialect}
use Rattle.rs_text.proofs.Nexts.{one_list}
use Rattle.rs_bodies.specs.Feeding.{PartAnswer, ReadsAs, answer_of_reading, start_of_part, feeding}
use Rattle.rs_text.specs.Readings.{read_all}
use Rattle.rs_text.proofs.Keeping.{tokens}

pub an_answer : (dia : Dialect) (old : Names_data) (bytes : List ℕ) (at : ℕ) → at ≤ length bytes → (answer : Result PartAnswer TextFault) × ReadsAs dia old bytes at answer
an_answer dia old bytes at h =
    let t = tokens bytes at h in (
      answer_of_reading (read_all (feeding dia) (Ok (start_of_part dia old)) t.0),
      λ ls lexed. ap (λ z. answer_of_reading (read_all (feeding dia) (Ok (start_of_part dia old)) z))
          (one_list bytes ls t.0 at lexed t.1),
    )

pub one_answer : (dia : Dialect) (old : Names_data) (bytes : List ℕ) (at : ℕ) (x y : Result PartAnswer TextFault) → at ≤ length bytes → ReadsAs dia old bytes at x → ReadsAs dia old bytes at y → x ≡ y
one_answer dia old bytes at x y h p q = let t = tokens bytes at h in sym (p t.0 t.1) ∙ q t.0 t.1
