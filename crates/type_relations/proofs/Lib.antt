mod HeadLemmas
mod ListLemmas
mod ValueLemmas
mod ArgumentLemmas
