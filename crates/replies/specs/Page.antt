-- A page as a buffer that is being written.
use Rattle.replies.specs.declared.Page.{Page}
use Rattle.replies.specs.Laid.{Laid, laid}

-- the offset and the bytes of a page
abbrev pub page : Page → Laid
page p = laid p.at p.out.now
