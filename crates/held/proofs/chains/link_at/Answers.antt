use Rattle.held.proofs.Linking.{link-end, link-past, link-cell, link-back}
use Rattle.held.proofs.chains.link_at.Goals as goal

pub returns-then-c-eq0 : goal.returns-then-c-eq0
returns-then-c-eq0 c =
    search link-end

pub returns-then-n-wide : goal.returns-then-n-wide
returns-then-n-wide c =
    search link-past

pub returns-then-next-c : goal.returns-then-next-c
returns-then-next-c c =
    search link-back

pub returns : goal.returns
returns c =
    search link-cell
