use Rattle.std.proofs.Common.{sym, subst}
use Rattle.sg_intake.specs.Listings.{IsListing}
use Rattle.sg_listing.proofs.FileLemmas.{listing_of}
use Rattle.sg_listing.proofs.listing.Listing.files.Goals as goal

pub returns-clause-listing : goal.returns-clause-listing
returns-clause-listing c = subst IsListing (sym c.files.ensures.value) (listing_of _ c.files.ensures.valid)
