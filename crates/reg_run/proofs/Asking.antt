-- What one question keeps, and what is replied.
use Rattle.std.proofs.Common.{◌≡◌, ◌∙◌, Result, Ok, Err, ap, inl, inr, ◌⊎◌, ℕ}
use Rattle.reg_terms.specs.declared.query.Query.{Query}
use Rattle.reg_terms.specs.declared.refusal.Refusal.{Refusal}
use Rattle.reg_terms.specs.declared.request.Request.{Request}
use Rattle.reg_terms.specs.declared.reply.Reply.{Reply}
use Rattle.reg_terms.specs.declared.reply.Reply.TheVariants as reply
use Rattle.reg_machine.specs.History.{State}
use Rattle.reg_service.specs.Turn.{AsksNoChange, Follows, turn, last_reply}
use Rattle.reg_service.specs.Kept.{LeavesKeeper, keeper_of}
use Rattle.reg_service.specs.declared.service.Next.{Next}
use Rattle.reg_service.specs.declared.service.Next.TheVariants as next
use Rattle.reg_words.specs.declared.task.Question.{Question}
use Rattle.reg_run.specs.Questions.{◌>>=◌, asked_by, by_system, query_of}

-- the keeper that is given back
pub left_keeper : {K : Type 0} (old : K) (n : Next K) → LeavesKeeper old n → keeper_of n ≡ old
left_keeper old (next.Go s) same = same
left_keeper old (next.Stop why keeper) same = same.0

-- the reply is the turn's, or that there was no memory
pub told_or_none : {K : Type 0} (s : State) (m : ℕ) (reading : Result Request Refusal) (old : K) (told : Reply) (n : Next K) → Follows s m reading (told, n) → LeavesKeeper old n
    → (told ≡ (turn s m reading).0) ⊎ (told ≡ reply.NoMemory)
told_or_none s m reading old told (next.Go after) (inl e) same = inl (ap (λ (p : Reply × State). p.0) e)
told_or_none s m reading old told (next.Go after) (inr w) same = inr w.fault
told_or_none s m reading old told (next.Stop why keeper) is same = inr (is ∙ ap last_reply same.1)

-- a question asks for no change
pub question_asks : (question : Question) → AsksNoChange (asked_by question)
question_asks question = by_query (query_of question)
  where
    by_query : (due : Result Query Refusal) → AsksNoChange (due >>= (λ query. Ok (by_system query)))
    by_query (Ok query) = tt
    by_query (Err refusal) = tt
