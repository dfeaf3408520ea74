use Rattle.call_plan.proofs.Ons.{ons}
use Rattle.call_pages.specs.Pages.{reclaim_at}
use Rattle.call_pages.proofs.reclaim_at.Goals as goal

pub returns-then-f-eq-NDA : goal.returns-then-f-eq-NDA
unfolding reclaim_at
returns-then-f-eq-NDA c = search (ons, c.frame_at-f.ensures) depth 16

pub returns-in_default : goal.returns-in_default
unfolding reclaim_at
returns-in_default c = search (ons, c.frame_at-f.ensures, c.find_domain.ensures, c.in_default.is) depth 16

pub returns-then-f-eq-TDR : goal.returns-then-f-eq-TDR
unfolding reclaim_at
returns-then-f-eq-TDR c = search (ons, c.frame_at-f.ensures, c.find_domain.ensures, c.in-Ok.is, c.reclaim_tdr.ensures) depth 16

pub returns-in_default-find_domain : goal.returns-in_default-find_domain
unfolding reclaim_at
returns-in_default-find_domain c = search (ons, c.frame_at-f.ensures, c.find_domain-2.ensures, c.in_default-find_domain.is) depth 16

pub returns : goal.returns
unfolding reclaim_at
returns c = search (ons, c.frame_at-f.ensures, c.find_domain-2.ensures, c.in-Ok-find_domain.is, c.reclaim_child.ensures) depth 16
