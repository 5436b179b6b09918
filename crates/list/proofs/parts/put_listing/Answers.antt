-- put_listing: the whole listing; returns its bytes, of which those that find a place are written.
use Rattle.list.proofs.PartCases.{listing_cases}
use borrow.Author.Rules.{rules}
use Rattle.list.proofs.parts.put_listing.Goals as goal

pub put_groomers-last-requires : goal.put_groomers-last-requires
put_groomers-last-requires c = search (rules, listing_cases)

pub put_sums-requires : goal.put_sums-requires
put_sums-requires c = search (rules, listing_cases)

pub returns : goal.returns
returns c = search (rules, listing_cases)
