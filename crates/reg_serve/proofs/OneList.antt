-- All messages of some turns, in one list.
use Rattle.std.proofs.Common.{◌⊎◌, ◌++◌, ◌∷◌, [], List, ℕ, Option, refl, append-nil, inl, inr}
use Rattle.reg_machine.specs.History.{State}
use Rattle.reg_session.specs.Answered.{Gives, Point}
use Rattle.reg_serve.specs.Answered.{Answer, MayAnswer, goes, times_of}
use Rattle.reg_serve.specs.Joined.{all_answers, ended_with}
use Rattle.reg_serve.specs.Sessions.{EndsAtMessage, EndsBetween, IsQuiet}
use Rattle.reg_serve.specs.Visits.{IsVisit, Sessions, Visit}
use Rattle.reg_serve.specs.declared.ended.Ended.{Ended}
use Rattle.reg_serve.specs.declared.ended.Ended.TheVariants as ended
use Rattle.reg_serve.proofs.Answering.{gives_more, gives_none, may_more, times_more}

-- these answers lead to this state, and these moments are left
abbrev Leads : State → Option (List ℕ) → List Answer → State → Option (List ℕ) → Type 0
Leads s ms answers last later = MayAnswer s answers last × Gives ms (times_of answers) later

leads_more : (s mid last : State) (ms between later : Option (List ℕ)) (xs ys : List Answer) → Leads s ms xs mid between → Leads mid between ys last later → Leads s ms (xs ++ ys) last later
leads_more s mid last ms between later xs ys a b = (may_more s mid last xs ys a.0 b.0, rw (times_more xs ys) (gives_more ms between later (times_of xs) (times_of ys) a.1 b.1))

quiet : (p : Point) (w ms : Option (List ℕ)) (s : State) → IsQuiet p w ms (goes s) → Leads p.state p.moments [] s ms
quiet p w ms s q = (q.2, rw q.1 (gives_none p.moments))

-- a turn's end
end_leads : (p : Point) (rest taken : List ℕ) (now w ms : Option (List ℕ)) (e : Ended) (s : State) (ends : EndsAtMessage p rest w ms e (goes s) ⊎ (IsQuiet p w ms (goes s) × EndsBetween taken now rest e))
    → Leads p.state p.moments (ended_with p rest taken now w ms e (goes s) ends) s ms
end_leads p rest taken now w ms ended.Silent s (inl (inl m)) = absurd m.3
end_leads p rest taken now w ms ended.Silent s (inl (inr f)) = absurd f.2
end_leads p rest taken now w ms ended.Silent s (inr q) = quiet p w ms s q.0
end_leads p rest taken now w ms ended.Closed s (inl (inl m)) = (m.3.1.given, m.3.1.times)
end_leads p rest taken now w ms ended.Closed s (inl (inr f)) = absurd f.2
end_leads p rest taken now w ms ended.Closed s (inr q) = absurd q.1
end_leads p rest taken now w ms ended.Bad s (inl (inl m)) = absurd m.3
end_leads p rest taken now w ms ended.Bad s (inl (inr f)) = quiet p p.written ms s f.2.0
end_leads p rest taken now w ms ended.Bad s (inr q) = absurd q.1
end_leads p rest taken now w ms ended.Failed s (inl (inl m)) = ((s, m.3.given, refl), rw (append-nil m.3.at) m.3.times)
end_leads p rest taken now w ms ended.Failed s (inl (inr f)) = quiet p p.written ms s f.2.0
end_leads p rest taken now w ms ended.Failed s (inr q) = quiet p w ms s q.0
end_leads p rest taken now w ms ended.TooMuch s (inl (inl m)) = absurd m.3
end_leads p rest taken now w ms ended.TooMuch s (inl (inr f)) = absurd f.2
end_leads p rest taken now w ms ended.TooMuch s (inr q) = quiet p w ms s q.0
end_leads p rest taken now w ms ended.NoMemory s (inl (inl m)) = ((s, m.3.0.given, refl), rw (append-nil m.3.0.at) m.3.0.times)
end_leads p rest taken now w ms ended.NoMemory s (inl (inr f)) = absurd f.2
end_leads p rest taken now w ms ended.NoMemory s (inr q) = quiet p w ms s q.0
end_leads p rest taken now w ms ended.Stopped s (inl (inl m)) = absurd m.3
end_leads p rest taken now w ms ended.Stopped s (inl (inr f)) = absurd f.2
end_leads p rest taken now w ms ended.Stopped s (inr q) = absurd q.1

-- a turn
turn_leads : (s mid : State) (ms between : Option (List ℕ)) (v : Visit) (e : Ended) (is : IsVisit s ms v e (goes mid) between)
    → Leads s ms (is.session.all.answers ++ ended_with is.session.last is.session.reading.rest is.session.taken v.back.left v.back.written between e (goes mid) is.session.ends) mid between
turn_leads s mid ms between v e is =
    leads_more s is.session.last.state mid ms is.session.last.moments between is.session.all.answers (ended_with is.session.last is.session.reading.rest is.session.taken v.back.left v.back.written between e (goes mid) is.session.ends)
    (is.session.all.given, is.session.all.times) (end_leads is.session.last is.session.reading.rest is.session.taken v.back.left v.back.written between e mid is.session.ends)

pub turns_lead : (s last : State) (ms later : Option (List ℕ)) (visits : List Visit) (all : Sessions s ms visits last later) → Leads s ms (all_answers s ms visits last later all) last later
turns_lead s last ms later [] all = (all.0, rw all.1 (gives_none ms))
turns_lead s last ms later (v ∷ visits) all =
    leads_more s all.1 last ms all.2 later (all.3.session.all.answers ++ ended_with all.3.session.last all.3.session.reading.rest all.3.session.taken v.back.left v.back.written all.2 all.0 (goes all.1) all.3.session.ends)
    (all_answers all.1 all.2 visits last later all.4) (turn_leads s all.1 ms all.2 v all.0 all.3) (turns_lead all.1 last all.2 later visits all.4)
