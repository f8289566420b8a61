-- The lines that are sent.
use Rattle.std.specs.Prelude.{ℕ, List, ◌++◌, codes, decimal, Option, Some, None}
use Rattle.uuid.specs.Text.{hyphenated_text, lower}
use Rattle.control_session.specs.declared.answer.CommitAnswer.{CommitAnswer}
use Rattle.control_session.specs.declared.answer.CommitAnswer.TheVariants as commit
use Rattle.control_session.specs.declared.answer.WarmAnswer.{WarmAnswer}
use Rattle.control_session.specs.declared.answer.WarmAnswer.TheVariants as warm
use Rattle.control_session.specs.declared.answer.StatusAnswer.{StatusAnswer}
use Rattle.control_session.specs.declared.answer.StatusAnswer.TheVariants as status

-- a uuid in lower case with hyphens
abbrev pub uuid_text : List ℕ → List ℕ
uuid_text uuid = hyphenated_text lower uuid

-- on the commit with that uuid
abbrev pub commit_reply : List ℕ → CommitAnswer → List ℕ
commit_reply uuid commit.Done = codes "committed " ++ (uuid_text uuid ++ codes "\n")
commit_reply uuid (commit.Busy other) = codes "refused busy " ++ (uuid_text other ++ codes "\n")
commit_reply uuid commit.TooMany = codes "refused too many layers\n"
commit_reply uuid commit.UuidTwice = codes "refused uuid twice\n"
commit_reply uuid commit.Failed = codes "refused disk fault\n"
commit_reply uuid commit.Worn = codes "refused worn\n"
commit_reply uuid commit.Memory = codes "refused memory\n"

-- on the warming of that layer
abbrev pub warm_reply : ℕ → WarmAnswer → List ℕ
warm_reply layer (warm.Done blocks) = codes "warmed " ++ (decimal layer ++ (codes " " ++ (decimal blocks ++ codes "\n")))
warm_reply layer warm.NoLayer = codes "refused no layer\n"
warm_reply layer warm.Failed = codes "refused shelf fault\n"

-- on how the image stands
abbrev pub pending_text : Option (List ℕ) → List ℕ
pending_text None = codes " pending none"
pending_text (Some uuid) = codes " pending " ++ uuid_text uuid

abbrev pub status_reply : StatusAnswer → List ℕ
status_reply (status.Now sectors layers entries pending) =
    codes "status sectors " ++ (decimal sectors ++ (codes " layers " ++ (decimal layers ++ (codes " entries " ++ (decimal entries ++ (pending_text pending ++ codes "\n"))))))
status_reply status.Worn = codes "refused worn\n"
