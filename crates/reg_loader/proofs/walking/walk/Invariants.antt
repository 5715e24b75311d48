use denote.Shadow.{shadow}
use denote.Text.{Utf8}
use Rattle.std.proofs.Common.{◌≡◌, take}
use Rattle.reg_loader.specs.Mentions.{mention}
use Rattle.reg_loader.specs.Walks.{IsWalkedBy}
use Rattle.reg_loader.proofs.walking.walk.Given as goal

-- the rows so far are walked, and what the last group's text means is known
abbrev pub invariant-loop-row : goal.invariant-loop-row
invariant-loop-row l = record {
  walked : IsWalkedBy l.job l.facts (take l.row-index l.rows) l.walked;
  text : shadow (Utf8 l.text);
  last : l.mention ≡ mention l.job.target l.text l.facts;
}
