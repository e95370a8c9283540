-- The replies to a list of requests are one text, and leave one bench, for the memory of each request.
use Rattle.std.specs.Prelude.{◌≡◌, ℕ, List}
use Rattle.sbl_bench.specs.Contents.{Contents}
use Rattle.sbl_sessions.specs.Answers.{Answers, Memory}
use Rattle.sbl_sessions.specs.Requests.{Request}

abbrev pub AnswersAreOne : Type 0
AnswersAreOne =
    (s : Contents) (requests : List Request) (m : List Memory) (a b : List ℕ) (t u : Contents) →
    Answers s requests m a t → Answers s requests m b u → (a ≡ b) × (t ≡ u)
