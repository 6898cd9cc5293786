pub mod GoingBack
